-- What a receiver hands up: units that are valid, with their octets, and units that are lost (Core 5.2, volume 6
-- part G, section 1), each with its stream and its time in µs.
use Rattle.std.specs.Prelude.{ℕ, ◌≡◌, ◌<◌, List, ◌++◌, length, take, Result, Ok, Err}
use Rattle.bcast_base.specs.Counts.{Rose}
use Rattle.unit_outlets.specs.declared.fault.TakerFault.{TakerFault}
use Rattle.unit_outlets.specs.declared.fault.TakerFault.TheVariants.{Failed, Memory}

pub data Handed : Type 0 where
  valid : (bis time : ℕ) (octets : List ℕ) → Handed
  lost : (bis time : ℕ) → Handed

-- what a taker counts: its faults, and its wants of memory
pub record Counts : Type 0 where
  pub faults : ℕ
  pub wants : ℕ

-- a refusal is counted, and nothing else is
abbrev pub Caused : Counts → Counts → Result (Unit {0}) TakerFault → Type 0
Caused old new (Ok _) = new ≡ old
Caused old new (Err Failed) = Rose old.faults new.faults × (new.wants ≡ old.wants)
Caused old new (Err Memory) = Rose old.wants new.wants × (new.faults ≡ old.faults)

-- all that was owed was handed; after a fault of the taker, all before the unit that it refused
abbrev pub HandsOver : List Handed → List Handed → List Handed → Result (Unit {0}) TakerFault → Type 0
HandsOver units old new (Ok _) = new ≡ old ++ units
HandsOver units old new (Err fault) = (n : ℕ) × (n < length units) × (new ≡ old ++ take n units)
