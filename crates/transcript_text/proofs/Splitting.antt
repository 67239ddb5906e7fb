-- Where the first line of a text ends.
use Rattle.std.proofs.Common.{◌≡◌, ◌≤◌, ◌<◌, ◌-◌, ℕ, zero, suc, true, false, cond, nat_eq, List, [], ◌∷◌, length, get_or, take, drop, refl, ap, ◌∙◌, arith}
use Rattle.std.proofs.lemmas.Bool.{false_from_ne_true}
use Rattle.scenario_words.specs.Joined.{onto_first}
use Rattle.transcript_text.specs.CountedLines.{lines_of}

-- a text without an end is one line
pub no_end : (text : List ℕ) → 0 < length text → ((k : ℕ) → 0 ≤ k → k < length text → nat_eq (get_or text k 0) 10 ≡ true → ⊥) → lines_of text ≡ text ∷ []
no_end [] some h = absurd (omega arith)
no_end (octet ∷ []) some h =
    let other : nat_eq octet 10 ≡ false = false_from_ne_true _ (h 0 (omega arith) (omega arith)) in
    rw other refl
no_end (octet ∷ next ∷ text) some h =
    let other : nat_eq octet 10 ≡ false = false_from_ne_true _ (h 0 (omega arith) (omega arith)) in
    let rest : lines_of (next ∷ text) ≡ (next ∷ text) ∷ [] = no_end (next ∷ text) (omega arith) (λ k low high. h (suc k) (omega arith) (omega arith)) in
    ap (λ b. cond b ((octet ∷ []) ∷ lines_of (next ∷ text)) (onto_first octet (lines_of (next ∷ text)))) other ∙ ap (onto_first octet) rest

pub first_end : (text : List ℕ) (end : ℕ) → end < length text → ((k : ℕ) → 0 ≤ k → k < end → nat_eq (get_or text k 0) 10 ≡ true → ⊥) → nat_eq (get_or text end 0) 10 ≡ true
    → lines_of text ≡ take (suc end) text ∷ lines_of (drop (suc end) text)
first_end [] end inside before at = absurd (omega arith)
first_end (octet ∷ text) zero inside before at = ap (λ b. cond b ((octet ∷ []) ∷ lines_of text) (onto_first octet (lines_of text))) at
first_end (octet ∷ text) (suc end) inside before at =
    let other : nat_eq octet 10 ≡ false = false_from_ne_true _ (before 0 (omega arith) (omega arith)) in
    let rest : lines_of text ≡ take (suc end) text ∷ lines_of (drop (suc end) text) = first_end text end (omega arith) (λ k low high. before (suc k) (omega arith) (omega arith)) at in
    ap (λ b. cond b ((octet ∷ []) ∷ lines_of text) (onto_first octet (lines_of text))) other ∙ ap (onto_first octet) rest

-- what follows the whole of a text
pub nothing_left : (text : List ℕ) → take (length text - length text) (drop (length text) text) ≡ []
nothing_left text =
    let none : length text - length text ≡ 0 = omega arith in
    ap (λ n. take n (drop (length text) text)) none
