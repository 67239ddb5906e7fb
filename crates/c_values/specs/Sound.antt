-- What is always true of the units that wait and of the rooms that were made for them.
use Rattle.std.specs.Prelude.{ℕ, ◌+◌, ◌<◌, ◌≤◌, List, [], ◌∷◌, length, map, All}
use Rattle.std.specs.Prelude.{Option, Some, None, IfSome, IsSome, vec_capacity, if◌then◌else◌}
use Rattle.unit_outlets.specs.Handed.{Handed, valid, lost}
use Rattle.c_values.specs.Kept.{Kept, Lacks, greatest_unit}
use Rattle.c_values.specs.Rooms.{AreRooms, roomy}
use Rattle.c_values.specs.declared.told.Told.{Told}
use Rattle.c_values.specs.declared.units.Entry.{Entry}
use Rattle.c_values.specs.declared.units.Missed.{Missed}
use Rattle.c_values.specs.declared.units.Units.TheInside.{Inside}

-- a unit that waits
abbrev pub waiting_as : Entry → Handed
waiting_as entry = if entry.is_valid then valid entry.bis entry.time entry.octets.items else lost entry.bis entry.time

-- a unit that found no memory
abbrev pub told_as : ℕ → ℕ → Option Told → Handed
told_as bis time (Some told) = valid bis time told.octets
told_as bis time None = lost bis time

abbrev pub missed_as : Missed → Handed
missed_as missed = told_as missed.bis missed.time missed.octets

abbrev pub missed_of : Option Missed → Option Handed
missed_of None = None
missed_of (Some missed) = Some (missed_as missed)

abbrev pub kept_of : Inside → Kept
kept_of a = record {
  waiting = map waiting_as a.entries.items;
  room = record { units = a.places; octets = a.size };
  round = record { began = a.round.began; missed = missed_of a.round.missed; wants = a.round.wants };
}

-- how many units wait in a room of so many octets
abbrev pub in_rooms : ℕ → List Entry → ℕ
in_rooms octets [] = 0
in_rooms octets (entry ∷ entries) = roomy octets entry.octets + in_rooms octets entries

pub record IsSound (a : Inside) : Type 0 where
  pub short : All (λ (entry : Entry). length entry.octets.items ≤ greatest_unit) a.entries.items
  pub sizes : a.size ≤ greatest_unit
  pub rooms : AreRooms a.size a.spare.items
  pub enough : a.places ≤ length a.spare.items + in_rooms a.size a.entries.items
  pub entries_fit : a.places ≤ vec_capacity a.entries
  pub spare_fits : a.places ≤ vec_capacity a.spare
  pub grew : a.round.began ≤ length a.entries.items
  pub lacked : IfSome (missed_of a.round.missed) (Lacks (record { units = a.places; octets = a.size }) (length a.entries.items))
  pub counted : 0 < a.round.wants → IsSome (missed_of a.round.missed)
