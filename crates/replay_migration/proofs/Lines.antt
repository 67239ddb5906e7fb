-- The lines that end among the octets of a text, and the line that holds the octet past its limit.
use Rattle.replay_migration.proofs.Prelude.{◌≡◌, ℕ, suc, ◌+◌, ◌<◌, ◌≤◌, Bool, true, false, cond, eqb, List, [], ◌∷◌, ◌++◌, length, take, drop, count_by, refl, sym, ap, ◌∙◌, arith, append_assoc, take-append-drop, length-take-le, length-append, length-drop, is_byte, lines-past_all, LastIsPast, IsTooLong}
use Rattle.std.proofs.lemmas.Bool.{lt-leb}
use Rattle.std.proofs.lemmas.List.Sums.{sum_by-append, sum_by-cons}
use Rattle.bcast_io.specs.TextLines.{TextLine, newline, past, line_of, lines_from, lines_of, text_limit}

-- how many of these octets end a line
abbrev pub ends : List ℕ → ℕ
ends octets = count_by (is_byte newline) octets

octet : (e : Bool) (t : ℕ) (p : List ℕ) (x : ℕ) (xs : List ℕ) → t < text_limit
    → lines_from e t p (x ∷ xs) ≡ cond (eqb x newline) (line_of p ∷ lines_from e (t + 1) [] xs) (lines_from e (t + 1) (p ++ x ∷ []) xs)
unfolding lines_from
octet e t p x xs below =
    ap (λ b. cond b (past ∷ []) (cond (eqb x newline) (line_of p ∷ lines_from e (t + 1) [] xs) (lines_from e (t + 1) (p ++ x ∷ []) xs)))
    (lt-leb text_limit t below)

-- octets within the limit end so many lines, and what follows them goes on with some part of a line
record RunsOn (e : Bool) (t : ℕ) (p xs more : List ℕ) : Type 0 where
  pub earlier : List TextLine
  pub part : List ℕ
  pub first : lines_from e t p (xs ++ more) ≡ earlier ++ lines_from e (t + length xs) part more
  pub count : length earlier ≡ ends xs

runs_on : (e : Bool) (t : ℕ) (p xs more : List ℕ) → t + length xs ≤ text_limit → RunsOn e t p xs more
runs_on e t p [] more fits = record { earlier = []; part = p; first = ap (λ k. lines_from e k p more) (omega arith); count = refl }
runs_on e t p (x ∷ xs) more fits = by (eqb x newline) refl (runs_on e (t + 1) [] xs more (omega arith)) (runs_on e (t + 1) (p ++ x ∷ []) xs more (omega arith))
  where
    chosen : (b : Bool) → eqb x newline ≡ b
        → lines_from e t p (x ∷ xs ++ more) ≡ cond b (line_of p ∷ lines_from e (t + 1) [] (xs ++ more)) (lines_from e (t + 1) (p ++ x ∷ []) (xs ++ more))
    chosen b is =
        octet e t p x (xs ++ more) (omega arith)
        ∙ ap (λ c. cond c (line_of p ∷ lines_from e (t + 1) [] (xs ++ more)) (lines_from e (t + 1) (p ++ x ∷ []) (xs ++ more))) is

    counted : (b : Bool) → eqb x newline ≡ b → ends (x ∷ xs) ≡ cond b 1 0 + ends xs
    counted b is = sum_by-cons (λ y. cond (is_byte newline y) 1 0) x xs ∙ ap (λ c. cond c 1 0 + ends xs) is

    same : (t + 1) + length xs ≡ t + suc (length xs)
    same = omega arith

    by : (b : Bool) → eqb x newline ≡ b → RunsOn e (t + 1) [] xs more → RunsOn e (t + 1) (p ++ x ∷ []) xs more → RunsOn e t p (x ∷ xs) more
    by true is ended goes = record {
      earlier = line_of p ∷ ended.earlier;
      part = ended.part;
      first = chosen true is ∙ ap (λ lines. line_of p ∷ lines) ended.first ∙ ap (λ k. line_of p ∷ ended.earlier ++ lines_from e k ended.part more) same;
      count = omega (arith, ended.count, counted true is);
    }
    by false is ended goes = record {
      earlier = goes.earlier;
      part = goes.part;
      first = chosen false is ∙ goes.first ∙ ap (λ k. goes.earlier ++ lines_from e k goes.part more) same;
      count = omega (arith, goes.count, counted false is);
    }

-- a piece passes the limit of a text behind the octets so far
module _ (text piece : List ℕ) (room line : ℕ) (limit : length text + room ≡ text_limit) (some : room < length piece)
    (number : line ≡ ends text + ends (take room piece) + 1) where
  prefix_long : length (text ++ take room piece) ≡ text_limit
  prefix_long = omega (arith, length-append text (take room piece), length-take-le room piece (omega arith), limit)

  past_behind : (e : Bool) (more : List ℕ) → LastIsPast (lines_of e ((text ++ piece) ++ more)) line
  past_behind e more =
      let prefix = text ++ take room piece in
      let rest = drop room piece ++ more in
      let whole : (text ++ piece) ++ more ≡ prefix ++ rest =
      append_assoc text piece more ∙ ap (λ l. text ++ (l ++ more)) (sym (take-append-drop room piece))
      ∙ ap (λ l. text ++ l) (append_assoc (take room piece) (drop room piece) more) ∙ sym (append_assoc text (take room piece) rest) in
      let r = runs_on e 0 [] prefix rest (omega (arith, prefix_long)) in
      let some_rest : 0 < length rest = omega (arith, length-append (drop room piece) more, length-drop room piece) in
      record {
        earlier = r.earlier;
        are = ap (lines_from e 0 []) whole ∙ r.first ∙ ap (λ lines. r.earlier ++ lines) (lines-past_all e (0 + length prefix) r.part rest (omega (arith, prefix_long)) some_rest);
        is_next = omega (arith, number, r.count, sum_by-append (λ y. cond (is_byte newline y) 1 0) text (take room piece));
      }

  pub too_long : IsTooLong (text ++ piece) line
  too_long = record { long = omega (arith, limit, length-append text piece); lines = past_behind }
