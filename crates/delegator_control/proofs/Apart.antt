-- When two values of a slot are apart, so that a notice is put.
use Rattle.delegator_control.proofs.Prelude.{ℕ, ◌≡◌, ◌≢◌, Bool, true, List, [], ◌∷◌, ◌++◌, ◌-◌, ◌∙◌, length, drop, get_or, Option, Some, None, refl, sym, ap, not, append_assoc, option_map, if◌then◌else◌, append_cancel_left, encoding, Notice, change, Entry, Status, received, value, arith, bytes_eq-Decides, MatchOption}
use Rattle.std.specs.Str.{bytes_eq}
use Rattle.std.proofs.Math.Bool.{beq}
use Rattle.std.specs.Borrow.{Bor}

abbrev pub one : ℕ → List ℕ → List Notice
one slot value = record { slot = slot; value = value } ∷ []

told_by : (slot : ℕ) (before now : List ℕ) (same : Bool) → bytes_eq before now ≡ same → before ≢ now → (if same then [] else one slot now) ≡ one slot now
told_by slot before now same is apart = grind (arith, bytes_eq-Decides)

pub told : (slot : ℕ) (before now : List ℕ) → before ≢ now → change slot before now ≡ one slot now
told slot before now apart = told_by slot before now (bytes_eq before now) refl apart

differ : (one other : Bool) → not (beq one other) ≡ true → one ≢ other
differ one other apart is = grind arith

-- one value is of one PA_Sync_State
pub one_sync : (before now : Status) (entry : Entry) → encoding (received before entry) ≡ encoding (received now entry) → before.is_synced ≡ now.is_synced
one_sync before now entry is = grind (arith, drop, append_cancel_left, get_or)

pub synced_anew : (slot : ℕ) (before now : Status) (entry : Entry) → not (beq before.is_synced now.is_synced) ≡ true
    → change slot (encoding (received before entry)) (encoding (received now entry)) ≡ one slot (encoding (received now entry))
synced_anew slot before now entry apart = told slot (encoding (received before entry)) (encoding (received now entry)) (λ is. differ before.is_synced now.is_synced apart (one_sync before now entry is))

-- a slot that was filled, and is emptied
pub emptied : (slot : ℕ) (status : Status) (held : Option Entry) (entry : Entry) → held ≡ Some entry
    → change slot (value (option_map (received status) held)) [] ≡ one slot []
emptied slot status held entry is = ap (λ (e : Option Entry). change slot (value (option_map (received status) e)) []) is

-- ---- octets that end with some, behind one that counts them

abbrev pub Strips : List ℕ → List ℕ → Option (Bor (List ℕ)) → Type 0
Strips octets counted found = MatchOption found ((front : List ℕ) → octets ≢ front ++ counted) (λ x. octets ≡ x.now ++ counted)

pub never_stripped : (octets counted front : List ℕ) (found : Option (Bor (List ℕ))) → Strips octets counted found → found ≡ None
    → octets ≡ front ++ length counted ∷ counted → ⊥
never_stripped octets counted front None strips is same = strips (front ++ length counted ∷ []) (same ∙ sym (append_assoc front (length counted ∷ []) counted))
never_stripped octets counted front (Some x) strips is same = absurd cc
