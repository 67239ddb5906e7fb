-- The next line, by where the generator stands.
use Rattle.scenario_lines.proofs.Prelude.{◌≡◌, ◌≢◌, ℕ, zero, suc, ◌+◌, ◌-◌, ◌==◌, cond, Bool, true, false, eqb-true, List, [], ◌∷◌, ◌++◌, drop, refl, sym, ap, ◌∙◌, arith, codes, head_lines, left_at}
use Rattle.scenario_lines.specs.Generated.{unit_line, lines_from}
use Rattle.scenario_lines.specs.declared.made_lines.Place.TheVariants.{Head, FirstUnit, Unit, OtherUnit, Over}

pub end_next : (state x count : ℕ) (line : List ℕ) → count ≡ 0 → line ≡ codes "end" → left_at Unit state x count ≡ line ∷ left_at Over state x count
unfolding lines_from
end_next state x zero line none is = ap (λ (l : List ℕ). l ∷ []) (sym is)
end_next state x (suc count) line none is = absurd (omega arith)

more : (state x count : ℕ) → left_at Unit state x (suc count) ≡ unit_line 1 (x + 1) ∷ left_at OtherUnit state x count
unfolding lines_from
more state x count = refl

pub unit_next : (state x count : ℕ) (line : List ℕ) → (count ≡ 0 → ⊥) → line ≡ unit_line 1 (x + 1)
    → left_at Unit state x count ≡ line ∷ left_at OtherUnit state x (count - 1)
unit_next state x zero line some is = absurd (some refl)
unit_next state x (suc count) line some is =
    let less : suc count - 1 ≡ count = omega arith in
    more state x count ∙ ap (λ (l : List ℕ). l ∷ left_at OtherUnit state x count) (sym is) ∙ ap (λ n. line ∷ left_at OtherUnit state x n) (sym less)

-- a unit or the end is left
pub some_left : (state x count : ℕ) → left_at Unit state x count ≢ []
unfolding lines_from
some_left state x zero none = absurd cc
some_left state x (suc count) none = absurd cc

-- behind the last of the first lines
none_left : (place : ℕ) → place ≡ 6 → drop (place + 1) head_lines ≡ []
none_left place is = ap (λ n. drop (n + 1) head_lines) is

pub head_next : (place state x count : ℕ) (line : List ℕ) → drop place head_lines ≡ line ∷ drop (place + 1) head_lines
    → left_at (Head place) state x count ≡ line ∷ left_at (cond (place == 6) FirstUnit (Head (place + 1))) state x count
head_next place state x count line is = ap (λ (ls : List (List ℕ)). ls ++ left_at FirstUnit state x count) is ∙ go (place == 6) refl
  where
    go : (b : Bool) → (place == 6) ≡ b
        → (line ∷ drop (place + 1) head_lines) ++ left_at FirstUnit state x count ≡ line ∷ left_at (cond b FirstUnit (Head (place + 1))) state x count
    go true last = ap (λ (ls : List (List ℕ)). (line ∷ ls) ++ left_at FirstUnit state x count) (none_left place (eqb-true place 6 last))
    go false last = refl
