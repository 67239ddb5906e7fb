-- Looking for slots.
use Rattle.delegator_choices.proofs.Prelude.{ℕ, suc, ◌≡◌, ◌+◌, ◌-◌, ◌<◌, ◌≤◌, Bool, true, false, List, [], ◌∷◌, length, get_or, Option, Some, None, refl, sym, ap, ◌∙◌, arith, is_some, if◌then◌else◌, slot_where, has_id, slot_with}
use Rattle.delegator_history.specs.Snapshots.{Entry, entry_at}
use Rattle.delegator_history.specs.Writes.{unused_from}

-- a slot that is found stands among the slots, and is what is sought
pub record Found (test : Option Entry → Bool) (start : ℕ) (slots : List (Option Entry)) (slot : ℕ) : Type 0 where
  pub least : start ≤ slot
  pub within : slot < start + length slots
  pub meets : test (get_or slots (slot - start) None) ≡ true

pub found : (test : Option Entry → Bool) (start : ℕ) (slots : List (Option Entry)) (slot : ℕ) → slot_where test start slots ≡ Some slot → Found test start slots slot
found test start [] slot e = absurd cc
found test start (s ∷ slots) slot e = first test start s slots slot (test s) refl (found test (start + 1) slots slot) e
  where
    first : (test : Option Entry → Bool) (start : ℕ) (s : Option Entry) (slots : List (Option Entry)) (slot : ℕ) (b : Bool) → test s ≡ b
        → (slot_where test (start + 1) slots ≡ Some slot → Found test (start + 1) slots slot)
        → (if b then Some start else slot_where test (start + 1) slots) ≡ Some slot → Found test start (s ∷ slots) slot
    first test start s slots slot true is later e =
        let same : start ≡ slot = cc in
        let here : slot - start ≡ 0 = omega (arith, same) in
        record { least = omega (arith, same); within = omega (arith, same); meets = ap (λ k. test (get_or (s ∷ slots) k None)) here ∙ is }
    first test start s slots slot false is later e =
        let h = later e in
        let next : slot - start ≡ suc (slot - (start + 1)) = omega (arith, h.least) in
        record { least = omega (arith, h.least); within = omega (arith, h.within); meets = ap (λ k. test (get_or (s ∷ slots) k None)) next ∙ h.meets }

-- a slot that has a Source_ID is filled
pub filled : (source_id : ℕ) (slot : Option Entry) → has_id source_id slot ≡ true → (entry : Entry) × (slot ≡ Some entry)
filled source_id None e = absurd cc
filled source_id (Some entry) e = (entry, refl)

pub held_slot : (source_id : ℕ) (slots : List (Option Entry)) (slot : ℕ) → slot_with source_id slots ≡ Some slot → (entry : Entry) × (entry_at slots slot ≡ Some entry)
held_slot source_id slots slot e =
    let all : slot - 0 ≡ slot = omega arith in
    filled source_id (entry_at slots slot) (ap (λ k. has_id source_id (get_or slots k None)) (sym all) ∙ (found (has_id source_id) 0 slots slot e).meets)

-- ---- an unused Source_ID

pub unused_free : (count source_id : ℕ) (slots : List (Option Entry)) → source_id < count → is_some (slot_with source_id slots) ≡ false → unused_from (count - source_id) source_id slots ≡ source_id
unfolding unused_from
unused_free count source_id slots below free =
    let left : count - source_id ≡ suc (count - (source_id + 1)) = omega (arith, below) in
    ap (λ k. unused_from k source_id slots) left ∙ ap (λ b. if b then unused_from (count - (source_id + 1)) (source_id + 1) slots else source_id) free

pub unused_used : (count source_id : ℕ) (slots : List (Option Entry)) → source_id < count → is_some (slot_with source_id slots) ≡ true
    → unused_from (count - source_id) source_id slots ≡ unused_from (count - (source_id + 1)) (source_id + 1) slots
unfolding unused_from
unused_used count source_id slots below used =
    let left : count - source_id ≡ suc (count - (source_id + 1)) = omega (arith, below) in
    ap (λ k. unused_from k source_id slots) left ∙ ap (λ b. if b then unused_from (count - (source_id + 1)) (source_id + 1) slots else source_id) used

pub unused_last : (count source_id : ℕ) (slots : List (Option Entry)) → source_id ≡ count → unused_from (count - source_id) source_id slots ≡ count
unfolding unused_from
unused_last count source_id slots same =
    let none : count - source_id ≡ 0 = omega (arith, same) in
    ap (λ k. unused_from k source_id slots) none ∙ same
