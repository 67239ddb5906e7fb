-- A text that is cut at the ends of its lines.
use Rattle.bcast_io.proofs.Prelude.{◌≡◌, ◌≢◌, ℕ, ◌+◌, ◌<◌, ◌≤◌, Bool, cond, List, [], ◌∷◌, ◌++◌, length, take, drop, map, refl, sym, ap, ◌∙◌, arith, append_assoc, append-nil, length-append, length-drop, length-take-le, take-append-drop, inl, inr, lt-leb, le-leb, cases_lt, cases_eq, take_all, All-nil, All-cons, All-head, All-tail, AreLines, TextLine, NoNewline, last_line, line_behind, line_of, lines_of, newline, past, text_limit, with_end, concat}
use Rattle.std.specs.Prelude.{All}
use Rattle.bcast_io.specs.TextLines.{lines_from}
use Rattle.bcast_io.proofs.LineLaws.{lines-newline, lines-past_all, lines-run}

-- ---- each text is cut so

record Cut (text : List ℕ) : Type 0 where
  whole : List (List ℕ)
  rest : List ℕ
  together : text ≡ concat (map with_end whole) ++ rest
  apart : All NoNewline whole
  unended : NoNewline rest

-- an octet more at the front of the first line
longer : (x : ℕ) (xs : List ℕ) → x ≢ newline → Cut xs → Cut (x ∷ xs)
longer x xs ne cut = by cut.whole cut.together cut.apart
  where
    by : (whole : List (List ℕ)) → xs ≡ concat (map with_end whole) ++ cut.rest → All NoNewline whole → Cut (x ∷ xs)
    by [] together apart = record {
      whole = [];
      rest = x ∷ cut.rest;
      together = ap (λ l. x ∷ l) together;
      apart = apart;
      unended = All-cons (λ y. y ≢ newline) x cut.rest ne cut.unended;
    }
    by (line ∷ lines) together apart = record {
      whole = (x ∷ line) ∷ lines;
      rest = cut.rest;
      together = ap (λ l. x ∷ l) together;
      apart = All-cons NoNewline (x ∷ line) lines (All-cons (λ y. y ≢ newline) x line ne (All-head NoNewline line lines apart)) (All-tail NoNewline line lines apart);
      unended = cut.unended;
    }

-- an end more at the front
ended : (x : ℕ) (xs : List ℕ) → x ≡ newline → Cut xs → Cut (x ∷ xs)
ended x xs is cut = record {
  whole = [] ∷ cut.whole;
  rest = cut.rest;
  together = ap (λ y. y ∷ xs) is ∙ ap (λ l. newline ∷ l) cut.together;
  apart = All-cons NoNewline [] cut.whole (All-nil (λ y. y ≢ newline)) cut.apart;
  unended = cut.unended;
}

cut_of : (text : List ℕ) → Cut text
cut_of [] = record { whole = []; rest = []; together = refl; apart = All-nil NoNewline; unended = All-nil (λ y. y ≢ newline) }
cut_of (x ∷ xs) = elim (cases_eq x newline) [ inl is ↦ ended x xs is (cut_of xs) | inr ne ↦ longer x xs ne (cut_of xs) ]

-- ---- and its lines are those of the cut

lines-over : (e : Bool) (t : ℕ) (p : List ℕ) → lines_from e t p [] ≡ last_line e p
unfolding lines_from
lines-over e t p = refl

-- lines that have an end, and what follows them
lines-whole : (e : Bool) (t : ℕ) (whole : List (List ℕ)) (more : List ℕ) → All NoNewline whole → t + length (concat (map with_end whole)) ≤ text_limit
    → lines_from e t [] (concat (map with_end whole) ++ more) ≡ map line_of whole ++ lines_from e (t + length (concat (map with_end whole))) [] more
lines-whole e t [] more apart fits = let same : t ≡ t + 0 = omega arith in ap (λ k. lines_from e k [] more) same
lines-whole e t (line ∷ lines) more apart fits =
    let others : List ℕ = concat (map with_end lines) in
    let long : length (with_end line ++ others) ≡ (length line + 1) + length others =
    length-append (with_end line) others ∙ ap (λ n. n + length others) (length-append line (newline ∷ [])) in
    let behind : t + length line + 1 + length others ≡ t + length (with_end line ++ others) = omega (arith, long) in
    ap (lines_from e t []) (append_assoc (with_end line) others more ∙ append_assoc line (newline ∷ []) (others ++ more))
    ∙ lines-run e t [] line (newline ∷ (others ++ more)) (All-head NoNewline line lines apart) (omega (arith, long))
    ∙ lines-newline e (t + length line) line (others ++ more) (omega (arith, long)) ∙ ap (λ ls. line_of line ∷ ls) (
    lines-whole e (t + length line + 1) lines more (All-tail NoNewline line lines apart) (omega (arith, long))
    ∙ ap (λ k. map line_of lines ++ lines_from e k [] more) behind
    )

-- what stands behind the last end of a text within its limit
lines-rest : (e : Bool) (t : ℕ) (rest : List ℕ) → NoNewline rest → t + length rest ≤ text_limit → lines_from e t [] rest ≡ last_line e rest
lines-rest e t rest none fits = grind (arith, append-nil rest, lines-run e t [] rest [] none fits, lines-over e (t + length rest) rest)

-- what stands behind the last end that the limit of a text leaves
lines-limit : (e : Bool) (t : ℕ) (rest more : List ℕ) → NoNewline rest → t + length rest ≡ text_limit → 0 < length more
    → lines_from e t [] (rest ++ more) ≡ past ∷ []
lines-limit e t rest more none at some = grind (arith, lines-run, lines-past_all, length)

lines-cut : (e : Bool) (text : List ℕ) (whole : List (List ℕ)) (rest : List ℕ) → take text_limit text ≡ concat (map with_end whole) ++ rest
    → All NoNewline whole → NoNewline rest → lines_of e text ≡ map line_of whole ++ line_behind e text rest
lines-cut e text whole rest together apart unended = elim (cases_lt text_limit (length text)) [
  | inl more ↦
      let prefix : List ℕ = concat (map with_end whole) in
      let later : List ℕ = drop text_limit text in
      let long : length prefix + length rest ≡ text_limit =
      sym (length-append prefix rest) ∙ sym (ap length together) ∙ length-take-le text_limit text (omega arith) in
      let some : 0 < length later = omega (arith, length-drop text_limit text) in
      let all : text ≡ prefix ++ (rest ++ later) = sym (take-append-drop text_limit text) ∙ ap (λ l. l ++ later) together ∙ append_assoc prefix rest later in
      ap (lines_from e 0 []) all ∙ lines-whole e 0 whole (rest ++ later) apart (omega arith)
      ∙ ap (λ ls. map line_of whole ++ ls) (grind (arith, lines-limit, length, cond, last_line, past, lt-leb, text_limit))
  | inr within ↦
      let prefix : List ℕ = concat (map with_end whole) in
      let all : text ≡ prefix ++ rest = sym (take_all text_limit text within) ∙ together in
      let long : length text ≡ length prefix + length rest = ap length all ∙ length-append prefix rest in
      ap (lines_from e 0 []) all ∙ lines-whole e 0 whole rest apart (omega arith)
      ∙ ap (λ ls. map line_of whole ++ ls) (grind (arith, lines-rest, length, cond, last_line, past, le-leb, text_limit))
]

-- ---- the law, both ways

pub lines_are : (e : Bool) (text : List ℕ) → AreLines e text (lines_of e text)
lines_are e text =
    let cut = cut_of (take text_limit text) in record {
      whole = cut.whole;
      rest = cut.rest;
      together = cut.together;
      apart = cut.apart;
      unended = cut.unended;
      lines_are = lines-cut e text cut.whole cut.rest cut.together cut.apart cut.unended;
    }

pub no_others : (e : Bool) (text : List ℕ) (lines : List TextLine) → AreLines e text lines → lines ≡ lines_of e text
no_others e text lines are = are.lines_are ∙ sym (lines-cut e text are.whole are.rest are.together are.apart are.unended)
