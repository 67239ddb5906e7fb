-- The calls that a sender of a framed stream took, the newest first (Core 5.2, volume 6 part G, section 2.2).
use Rattle.std.specs.Prelude.{ℕ, List, [], ◌∷◌, ◌++◌, length, Option, Some, None}
use Rattle.bcast_base.specs.declared.unit.Unit.{Unit as AudioUnit}

-- a unit is accepted with its time in µs, or the next event is laid, which has this anchor in µs
pub data Call : Type 0 where
  accept : (time : ℕ) (octets : List ℕ) → Call
  lay : (anchor : ℕ) → Call

abbrev pub Timed : Type 0
Timed = AudioUnit

abbrev pub accepted : List Call → List Timed
accepted [] = []
accepted (accept time octets ∷ earlier) = accepted earlier ++ record { time = time; octets = octets } ∷ []
accepted (lay anchor ∷ earlier) = accepted earlier

abbrev pub last_time : List Call → Option ℕ
last_time [] = None
last_time (accept time octets ∷ earlier) = Some time
last_time (lay anchor ∷ earlier) = last_time earlier

-- an event that was laid: its anchor in µs, and how many units were accepted before
pub record Laying : Type 0 where
  pub anchor : ℕ
  pub units : ℕ

abbrev pub layings_of : List Call → List Laying
layings_of [] = []
layings_of (accept time octets ∷ earlier) = layings_of earlier
layings_of (lay anchor ∷ earlier) = layings_of earlier ++ record { anchor = anchor; units = length (accepted earlier) } ∷ []
