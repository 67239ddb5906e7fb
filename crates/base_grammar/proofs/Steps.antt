-- The parts of reading: a step that did not fail, a field that is whole, a rule that is kept.
use Rattle.base_grammar.proofs.Prelude.{◌≡◌, ℕ, ◌≤◌, Bool, false, cond, ltb, eqb, List, Option, Some, None, Ok, refl, arith, option_map, ltb-false, le-ltb, ne_eqb, IsOctets, bad_of, are_read, reads, BaseFault, Short, NoSubgroup, NoBis, place_in, IsConfig, stands_in, subgroups_fault, streams_fault, index_fault, run_fault, needed_ok, ok_is, field_at, unless}

-- a field that is whole
pub field_ok : {A : Type 0} (whole rest : List ℕ) (o : Option A) (x : A) → field_at whole rest o ≡ Ok x → o ≡ Some x
field_ok whole rest o x e = needed_ok (Short (place_in whole rest)) o x e

-- a rule that is kept
pub unless_ok : {A : Type 0} (o : Option BaseFault) (x y : A) → unless o x ≡ Ok y → (o ≡ None) × (x ≡ y)
unless_ok o x y e = grind (arith, ok_is)

-- ---- the rules

no_fault : (b : Bool) (fault : BaseFault) → cond b (Some fault) None ≡ None → b ≡ false
no_fault b fault e = grind arith

pub positive : (n : ℕ) → eqb n 0 ≡ false → 1 ≤ n
positive n e = grind arith

positive_test : (n : ℕ) → 1 ≤ n → eqb n 0 ≡ false
positive_test n h = ne_eqb n 0 (λ e. omega (arith, h, e))

pub subgroups_none : (n : ℕ) → subgroups_fault n ≡ None → 1 ≤ n
subgroups_none n e = positive n (no_fault (eqb n 0) NoSubgroup e)

pub none_subgroups : (n : ℕ) → 1 ≤ n → subgroups_fault n ≡ None
none_subgroups n h = rw (positive_test n h) refl

pub streams_none : (place n : ℕ) → streams_fault place n ≡ None → 1 ≤ n
streams_none place n e = positive n (no_fault (eqb n 0) (NoBis place) e)

pub none_streams : (place n : ℕ) → 1 ≤ n → streams_fault place n ≡ None
none_streams place n h = rw (positive_test n h) refl

pub run_none : (place : ℕ) (is_list : Bool) (octets : List ℕ) → IsOctets octets → run_fault place is_list octets ≡ None → IsConfig is_list octets
run_none place is_list octets fits e = grind (arith, are_read, bad_of)

pub none_run : (place : ℕ) (is_list : Bool) (octets : List ℕ) → IsConfig is_list octets → run_fault place is_list octets ≡ None
none_run place is_list octets h = grind (arith, option_map, reads)

pub index_none : (place : ℕ) (before : List ℕ) (bis : ℕ) → index_fault place before bis ≡ None → (1 ≤ bis) × (bis ≤ 31) × (stands_in before bis ≡ false)
index_none place before bis e = grind (arith, ltb, stands_in, ltb-false)

pub none_index : (place : ℕ) (before : List ℕ) (bis : ℕ) → 1 ≤ bis → bis ≤ 31 → stands_in before bis ≡ false → index_fault place before bis ≡ None
none_index place before bis least greatest is_new = rw (le-ltb bis 1 least, le-ltb 31 bis greatest, is_new) refl
