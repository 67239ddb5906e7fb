-- How the lines of a text go on after an octet, after a run of octets and at an end.
use Rattle.bcast_io.proofs.Prelude.{◌≡◌, ◌≢◌, ℕ, suc, ◌+◌, ◌<◌, ◌≤◌, Bool, true, false, cond, eqb, leb, List, [], ◌∷◌, ◌++◌, length, take, refl, sym, ap, ◌∙◌, arith, append_assoc, append-nil, length-take-le, length-append, inl, inr, lt-leb, le-leb, ne_eqb, cases_lt, cases_eq, take_all, All-head, All-tail, newline, text_limit, line_limit, plain, too_long, past, line_of, last_line, NoNewline}
use Rattle.bcast_io.specs.TextLines.{lines_from}

module _ (e : Bool) where
  -- an octet past the limit of the text
  pub lines-past : (t : ℕ) (p : List ℕ) (x : ℕ) (xs : List ℕ) → text_limit ≤ t → lines_from e t p (x ∷ xs) ≡ past ∷ []
  unfolding lines_from
  lines-past t p x xs h =
      ap (λ b. cond b (past ∷ []) (cond (eqb x newline) (line_of p ∷ lines_from e (t + 1) [] xs) (lines_from e (t + 1) (p ++ x ∷ []) xs))) (le-leb text_limit t h)

  -- the end of a line
  pub lines-newline : (t : ℕ) (p xs : List ℕ) → t < text_limit → lines_from e t p (newline ∷ xs) ≡ line_of p ∷ lines_from e (t + 1) [] xs
  unfolding lines_from
  lines-newline t p xs h =
      ap (λ b. cond b (past ∷ []) (line_of p ∷ lines_from e (t + 1) [] xs)) (lt-leb text_limit t h)

  -- an octet of a line
  pub lines-octet : (t : ℕ) (p : List ℕ) (x : ℕ) (xs : List ℕ) → t < text_limit → x ≢ newline → lines_from e t p (x ∷ xs) ≡ lines_from e (t + 1) (p ++ x ∷ []) xs
  unfolding lines_from
  lines-octet t p x xs h ne =
      let ended = line_of p ∷ lines_from e (t + 1) [] xs in
      let goes = lines_from e (t + 1) (p ++ x ∷ []) xs in
      ap (λ b. cond b (past ∷ []) (cond (eqb x newline) ended goes)) (lt-leb text_limit t h) ∙ ap (λ b. cond b ended goes) (ne_eqb x newline ne)

  -- octets of a line
  pub lines-run : (t : ℕ) (p xs more : List ℕ) → NoNewline xs → t + length xs ≤ text_limit → lines_from e t p (xs ++ more) ≡ lines_from e (t + length xs) (p ++ xs) more
  lines-run t p [] more none fits =
      let same : t ≡ t + 0 = omega arith in
      ap (λ k. lines_from e k p more) same ∙ ap (λ q. lines_from e (t + 0) q more) (sym (append-nil p))
  lines-run t p (x ∷ xs) more none fits =
      let count : (t + 1) + length xs ≡ t + suc (length xs) = omega arith in
      lines-octet t p x (xs ++ more) (omega arith) (All-head (λ y. y ≢ newline) x xs none)
      ∙ lines-run (t + 1) (p ++ x ∷ []) xs more (All-tail (λ y. y ≢ newline) x xs none) (omega arith)
      ∙ ap (λ k. lines_from e k ((p ++ x ∷ []) ++ xs) more) count
      ∙ ap (λ q. lines_from e (t + suc (length xs)) q more) (append_assoc p (x ∷ []) xs)

-- a line past its limit, whatever its octets are
pub line_of-long : (p : List ℕ) → line_limit < length p → line_of p ≡ too_long
line_of-long p h = ap (λ b. cond b (plain p) too_long) (lt-leb (length p) line_limit h)

last_line-long : (e : Bool) (p q : List ℕ) → line_limit < length p → line_limit < length q → last_line e p ≡ last_line e q
last_line-long e p q h k = grind (arith, line_of-long)

pub lines-long : (e : Bool) (t : ℕ) (p q xs : List ℕ) → line_limit < length p → line_limit < length q → lines_from e t p xs ≡ lines_from e t q xs
unfolding lines_from
lines-long e t p q [] h k = last_line-long e p q h k
lines-long e t p q (x ∷ xs) h k =
    let next = lines_from e (t + 1) [] xs in
    let same = line_of-long p h ∙ sym (line_of-long q k) in
    let rest = lines-long e (t + 1) (p ++ x ∷ []) (q ++ x ∷ []) xs (omega (arith, length-append p (x ∷ []))) (omega (arith, length-append q (x ∷ []))) in
    ap (λ l. cond (leb text_limit t) (past ∷ []) (cond (eqb x newline) (l ∷ next) (lines_from e (t + 1) (p ++ x ∷ []) xs))) same
    ∙ ap (λ r. cond (leb text_limit t) (past ∷ []) (cond (eqb x newline) (line_of q ∷ next) r)) rest

-- it is enough to keep one octet more than a line may have
pub line_of-kept : (p : List ℕ) → line_of (take 9001 p) ≡ line_of p
line_of-kept p = elim (cases_lt 9001 (length p)) [
  | inl more ↦ line_of-long (take 9001 p) (omega (arith, length-take-le 9001 p (omega arith))) ∙ sym (line_of-long p (omega arith))
  | inr all ↦ ap line_of (take_all 9001 p all)
]

pub lines-kept : (e : Bool) (t : ℕ) (p xs : List ℕ) → lines_from e t (take 9001 p) xs ≡ lines_from e t p xs
lines-kept e t p xs = elim (cases_lt 9001 (length p)) [
  | inl more ↦ lines-long e t (take 9001 p) p xs (omega (arith, length-take-le 9001 p (omega arith))) (omega arith)
  | inr all ↦ ap (λ q. lines_from e t q xs) (take_all 9001 p all)
]

-- the end of a text ends a line that has an octet
pub lines-end : (t : ℕ) (p : List ℕ) → 0 < length p → lines_from true t p [] ≡ line_of p ∷ []
unfolding lines_from
lines-end t p some = grind arith

-- no line comes where a text ended with its last line whole
pub lines-nothing : (e : Bool) (t : ℕ) → lines_from e t [] [] ≡ []
unfolding lines_from
lines-nothing e t = grind arith

-- a line that isn't whole is none
pub lines-unended : (t : ℕ) (p : List ℕ) → lines_from false t p [] ≡ []
unfolding lines_from
lines-unended t p = refl

-- where no line comes to the end of a text, no octet is left
pub lines-none : (t : ℕ) (p xs : List ℕ) → lines_from true t p xs ≡ [] → (p ≡ []) × (xs ≡ [])
unfolding lines_from
lines-none t [] [] e = (refl, refl)
lines-none t (x ∷ xs) [] e = cc
lines-none t p (x ∷ xs) e = elim (cases_lt t text_limit) [
  | inl below ↦ elim (cases_eq x newline) [
    | inl is ↦ let h : line_of p ∷ lines_from true (t + 1) [] xs ≡ [] = sym (ap (λ y. lines_from true t p (y ∷ xs)) is ∙ lines-newline true t p xs below) ∙ e in cc
    | inr ne ↦
        let h = lines-none (t + 1) (p ++ x ∷ []) xs (sym (lines-octet true t p x xs below ne) ∙ e) in
        absurd (omega (arith, ap length h.0, length-append p (x ∷ [])))
  ]
  | inr at ↦ let h : past ∷ [] ≡ [] = sym (lines-past true t p x xs at) ∙ e in cc
]

-- the octet past the limit of the text and any more
pub lines-past_all : (e : Bool) (t : ℕ) (p xs : List ℕ) → text_limit ≤ t → 0 < length xs → lines_from e t p xs ≡ past ∷ []
lines-past_all e t p [] h some = absurd (omega arith)
lines-past_all e t p (x ∷ xs) h some = lines-past e t p x xs h
