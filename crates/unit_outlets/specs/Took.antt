-- What a box does with a unit (the units are the SDUs of Core 5.2, volume 6 part G, section 1). Boxes are this project's
-- own.
use Rattle.std.specs.Prelude.{ℕ, ◌≡◌, ◌≢◌, IsTrue, List, Some, slice_get, slice_set, Result, Ok, Err}
use Rattle.unit_outlets.specs.Account.{Account, Fits, with_unit}
use Rattle.bcast_base.specs.Counts.{Rose}
use Rattle.unit_outlets.specs.declared.fault.OutletFault.{OutletFault}
use Rattle.unit_outlets.specs.declared.fault.OutletFault.TheVariants.{Failed, Memory}

-- the box counted a fault and all else is as before; a sound box had no room in its sums
abbrev pub Faulted : List ℕ → Account → Account → Type 0
Faulted unit old new = Rose old.faults new.faults × (new ≡ record old { faults = new.faults }) × (IsTrue old.is_sound → ¬ Fits unit old)

-- a box whose sums have no room for the unit counts a fault: it neither takes it nor wants memory
abbrev pub Took : List ℕ → Account → Account → Result (Unit {0}) OutletFault → Type 0
Took unit old new (Ok _) = Fits unit old × (new ≡ with_unit unit old)
Took unit old new (Err Failed) = Faulted unit old new
Took unit old new (Err Memory) = Fits unit old × (new ≡ old)

pub record TookAt (place : ℕ) (unit : List ℕ) (old new : List Account) (result : Result (Unit {0}) OutletFault) : Type 0 where
  pub before : Account
  pub after : Account
  pub here : slice_get old place ≡ Some before
  pub others : new ≡ slice_set old place after
  pub took : Took unit before after result

-- each box but the one at this place is the same
abbrev pub OthersSame : {A : Type 0} → ℕ → List A → List A → Type 0
OthersSame place old new = (other : ℕ) → other ≢ place → slice_get new other ≡ slice_get old other
