-- What waits for C, the room that was reserved for it, and what a tick hands over. All are this project's own.
use Rattle.std.specs.Prelude.{ℕ, ◌≡◌, ◌+◌, ◌<◌, ◌≤◌, Bool, true, false, List, [], ◌∷◌, ◌++◌, length, take, Option, Some, None}
use Rattle.std.specs.Option.{option_to_list}
use Rattle.std.specs.Prelude.{All}
use Rattle.unit_outlets.specs.Handed.{Handed, valid, lost, Counts}

-- room for so many units of so many octets each
pub record Room : Type 0 where
  pub units : ℕ
  pub octets : ℕ

-- of what is handed over at one time: how many units waited as it began, the unit that found no memory, where one did, and how many
-- were refused behind it
pub record Round : Type 0 where
  pub began : ℕ
  pub missed : Option Handed
  pub wants : ℕ

-- the units that wait, oldest first
pub record Kept : Type 0 where
  pub waiting : List Handed
  pub room : Room
  pub round : Round

-- the next round begins
abbrev pub begun : Kept → Kept
begun kept = record kept { round = record { began = length kept.waiting; missed = None; wants = 0 } }

-- one unit more waits
abbrev pub with_unit : Handed → Kept → Kept
with_unit unit kept = record kept { waiting = kept.waiting ++ unit ∷ [] }

-- a unit finds no memory
abbrev pub with_miss : Handed → Kept → Kept
with_miss unit kept = record kept { round = record kept.round { missed = Some unit } }

-- ---- as a taker of units: what was handed over is what waits and the unit that found no memory; what stays the same stands in front

abbrev pub head_of : Kept → Handed
head_of kept = valid kept.room.units kept.room.octets (kept.round.began ∷ [])

abbrev pub calls_of : Kept → List Handed
calls_of kept = head_of kept ∷ (kept.waiting ++ option_to_list kept.round.missed)

abbrev pub counts_of : Kept → Counts
counts_of kept = record { faults = 0; wants = kept.round.wants }

-- ---- what room there is

-- the most octets of a unit: Max_SDU has 12 bits (Core 5.2, volume 6 part B, section 4.4.6.11)
abbrev pub greatest_unit : ℕ
greatest_unit = 4095

-- a unit has no more octets than this
abbrev pub IsWithin : ℕ → Handed → Type 0
IsWithin octets (valid bis time unit) = length unit ≤ octets
IsWithin octets (lost bis time) = Unit {0}

-- beside so many units that wait the room has none for this one
abbrev pub Lacks : Room → ℕ → Handed → Type 0
Lacks room waiting unit = waiting < room.units → ¬ IsWithin room.octets unit

-- the room has place for these units beside so many that wait
pub record HasRoom (room : Room) (waiting : ℕ) (units : List Handed) : Type 0 where
  pub count : waiting + length units ≤ room.units
  pub octets : All (IsWithin room.octets) units

-- ---- what a round brought: these units wait behind those that waited, or the first of them, and not all; all where there was room
pub record Brought (before : Kept) (units : List Handed) (after : Kept) (all : Bool) : Type 0 where
  pub whole : all ≡ true → after.waiting ≡ before.waiting ++ units
  pub part : all ≡ false → (n : ℕ) × (n < length units) × (after.waiting ≡ before.waiting ++ take n units)
  pub room : after.room ≡ before.room
  pub served : HasRoom before.room (length before.waiting) units → all ≡ true
