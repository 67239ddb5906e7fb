-- Going through the faults in their order.
use Rattle.big_info.proofs.Prelude.{◌≡◌, ℕ, ◌<◌, ◌≤◌, arith, Bool, IsTrue, IsFalse, Some, None, nat_tests, BigInfo, RangeIso, Horizon, faults, has_fault, NoFault, IsFirstFault}
use Rattle.std.specs.List.{find}
use Rattle.big_info.specs.declared.fault.GroupFault.{GroupFault}
use Rattle.big_info.specs.Faults.{number_of}
use Rattle.big_info.specs.Rows.{first_fault}

-- none of the first faults holds
pub record NoneOfFirst (greatest : ℕ) (info : BigInfo) (count : ℕ) : Type 0 where
  pub none : (other : GroupFault) → number_of other ≤ count → IsFalse (has_fault greatest info other)

-- where none of all holds
pub no_fault : (greatest : ℕ) (info : BigInfo) (count : ℕ) → NoneOfFirst greatest info count → 14 ≤ count → NoFault greatest info
no_fault greatest info count all enough = none
  where
    none : NoFault greatest info
    none RangeIso = all.none RangeIso (omega arith)
    none fault = all.none fault (omega arith)

-- a smaller horizon is within a greater one
pub no_fault_within : (greatest : ℕ) (info : BigInfo) → greatest ≤ 31 → NoFault greatest info → NoFault 31 info
no_fault_within greatest info h none Horizon = grind (arith, nat_tests, none Horizon)
no_fault_within greatest info h none fault = none fault

find_first : (test : GroupFault → Bool) (fault : GroupFault) → IsTrue (test fault)
    → ((other : GroupFault) → number_of other < number_of fault → IsFalse (test other)) → find test faults ≡ Some fault
find_first test _ this before = grind arith

find_none : (test : GroupFault → Bool) → ((fault : GroupFault) → IsFalse (test fault)) → find test faults ≡ None
find_none test none = search none

-- the first fault is the one that is found
pub first_found : (greatest : ℕ) (info : BigInfo) (fault : GroupFault) → IsFirstFault greatest info fault → first_fault greatest info ≡ Some fault
unfolding first_fault
first_found greatest info fault first = find_first (has_fault greatest info) fault first.holds first.none_before

pub none_found : (greatest : ℕ) (info : BigInfo) → NoFault greatest info → first_fault greatest info ≡ None
unfolding first_fault
none_found greatest info none = find_none (has_fault greatest info) none
