-- What a stream of either framing sends (Core 5.2, volume 6 part G, section 2): the events that were laid. Events of an
-- air count from the first one laid as 0.
use Rattle.std.specs.Prelude.{ℕ, ◌/◌, ◌%◌, ◌==◌, if◌then◌else◌, Option, Some, None, List, [], ◌∷◌, length}
use Rattle.std.specs.List.{slice_get}
use Rattle.std.specs.Option.{option_and_then}
use Rattle.isoal_base.specs.declared.laid.EventLaid.{EventLaid}

-- an event of a stream: its PDUs by rising payload number, and the times of the units that were left out
pub record Laid : Type 0 where
  pub pdus : List (List ℕ)
  pub stale : List ℕ

-- the answer of a lay without where its octets lie in memory
abbrev pub laid_in : EventLaid → Laid
laid_in event = record { pdus = event.pdus; stale = event.stale }

-- an event that was laid, and how many units have a slot of their own, have started or were left out then
pub record Entry : Type 0 where
  pub event : Laid
  pub begun : ℕ

-- the newest event first
abbrev pub Air : Type 0
Air = List Entry

abbrev pub event_at : Air → ℕ → Option Laid
event_at [] event = None
event_at (entry ∷ earlier) event = if length earlier == event then Some entry.event else event_at earlier event

-- the PDU of a payload number, where an event has `bn` of them
abbrev pub pdu_at : ℕ → Air → ℕ → Option (List ℕ)
pdu_at bn air number = option_and_then (λ event. slice_get event.pdus (number % bn)) (event_at air (number / bn))

abbrev pub begun_in : Air → ℕ
begun_in [] = 0
begun_in (entry ∷ earlier) = entry.begun
