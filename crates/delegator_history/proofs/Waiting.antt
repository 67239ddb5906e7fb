-- The notices that wait go on by what each step makes of them.
use Rattle.delegator_history.proofs.Prelude.{ℕ, zero, suc, ◌≡◌, ◌≢◌, ◌+◌, ◌<◌, min, List, [], ◌∷◌, ◌++◌, length, drop, sym, ap, ◌∙◌, arith, drop-append-le, drop_min, Snapshot, Step, snapshot_of, Setup, value_at}
use Rattle.std.proofs.Math.Nat.{min-le_right}
use Rattle.std.proofs.lemmas.Slice.Eq.{bytes_eq-Decides}
use Rattle.delegator_history.specs.Notices.{change, changes, is_told, waiting}
use Rattle.delegator_history.proofs.Lists.{flat_none, flat_one}

drop_nil : {A : Type 0} (n : ℕ) → drop {A = A} n [] ≡ []
drop_nil n = grind arith

drop_drop : {A : Type 0} (d t : ℕ) (xs : List A) → drop (d + t) xs ≡ drop t (drop d xs)
drop_drop zero t xs = ap (λ k. drop k xs) (omega arith)
drop_drop (suc d) t [] = drop_nil (suc d + t) ∙ sym (drop_nil t)
drop_drop (suc d) t (x ∷ xs) = let next : suc d + t ≡ suc (d + t) = omega arith in ap (λ k. drop k (x ∷ xs)) next ∙ drop_drop d t xs

pub waiting_goes_on : (setup : Setup) (step : Step) (steps : List Step)
    → waiting setup (step ∷ steps) ≡ drop (is_told step) (waiting setup steps) ++ changes setup.slots (snapshot_of setup steps) (snapshot_of setup (step ∷ steps))
waiting_goes_on setup step steps = grind (arith, snapshot_of, drop-append-le, min, length, min-le_right, drop_min, drop_drop)

-- ---- the notices of a step

pub no_change : (slot : ℕ) (before after : List ℕ) → before ≡ after → change slot before after ≡ []
no_change slot before after same = grind (arith, bytes_eq-Decides)

-- of a step that changes no value
pub none_change : (n : ℕ) (before after : Snapshot) → ((i : ℕ) → value_at before i ≡ value_at after i) → changes n before after ≡ []
none_change n before after same = flat_none (λ i. change i (value_at before i) (value_at after i)) 0 n (λ i least below. no_change i (value_at before i) (value_at after i) (same i))

-- of a step that may change the value of one slot
pub one_changes : (n slot : ℕ) (before after : Snapshot) → slot < n → ((i : ℕ) → i ≢ slot → value_at before i ≡ value_at after i)
    → changes n before after ≡ change slot (value_at before slot) (value_at after slot)
one_changes n slot before after within same =
    flat_one (λ i. change i (value_at before i) (value_at after i)) 0 n slot (omega arith) (omega arith)
    (λ i other. no_change i (value_at before i) (value_at after i) (same i other))
