-- Units by the source's own anchors and numbers: which unit of the source an entry is that a sink hands up, and when it is
-- due (Core 5.2, volume 6 part G, sections 2.1, 2.2 and 3.2). Lists of calls have the newest first; lists of events, of
-- slots and of units have the oldest first.
use Rattle.std.specs.Prelude.{ℕ, ◌+◌, ◌-◌, ◌*◌, ◌/◌, ◌<◌, ◌≤◌, ◌≡◌, Bool, true, false, List, map, Some, slice_get}
use Rattle.std.specs.List.{AllZip, filter}
use Rattle.std.specs.List.Sorted.{IsStrictlyIncreasing}
use Rattle.big_info.specs.Schedule.{per_event_of}
use Rattle.big_info.specs.Time.{iso_us_of}
use Rattle.unit_outlets.specs.Handed.{Handed, valid, lost}
use Rattle.isoal_base.specs.Air.{Air}
use Rattle.isoal_base.specs.Stays.{Stay}
use Rattle.isoal_framed.specs.Calls.{Laying, Timed, accepted, layings_of}
use Rattle.isoal_framed.specs.Sends.{IsOf, Sends}
use Rattle.isoal_framed.specs.Struck.{Sent}
use Rattle.isoal_framed.specs.Tokens.{time_of as start_time}
use Rattle.isoal_unframed.specs.Struck.{Place}
use Rattle.isoal_unframed.specs.State.Windows.{time_of as slot_time}
use Rattle.source_machine.specs.Airs.{place_of, slots_of}
use Rattle.source_machine.specs.Calls.{Setup, Call, framed_calls, given, next_of}
use Rattle.sync_reference.specs.Reference.{anchor_of}
use Rattle.group_sink.specs.Handing.{bis_of}

abbrev pub is_valid : Handed → Bool
is_valid (valid bis time octets) = true
is_valid (lost bis time) = false

abbrev pub valid_in : List Handed → List Handed
valid_in units = filter is_valid units

abbrev pub time_in : Handed → ℕ
time_in (valid bis time octets) = time
time_in (lost bis time) = time

-- the stay that begins with the source's first event
abbrev pub whole_stay : Setup → ℕ → Stay
whole_stay setup bis = record { info = setup.info; bis = bis; first = setup.first; origin = setup.origin; delay = setup.delay }

-- the anchor of an event, in µs
abbrev pub anchor_in : Setup → ℕ → ℕ
anchor_in setup event = anchor_of setup.origin setup.first event (iso_us_of setup.info)

-- ---- unframed streams

abbrev pub IsOfSlot : Setup → ℕ → Place → Handed → Type 0
IsOfSlot setup bis at unit = (bis_of unit ≡ bis) × (time_in unit ≡ slot_time (whole_stay setup bis) at.event at.slot)

-- the unit of this number among those that the source accepted on the stream, valid, at the time of its own slot in a performed event
pub record IsGiven (setup : Setup) (calls : List Call) (bis number : ℕ) (unit : Handed) : Type 0 where
  pub event : ℕ
  pub slot : ℕ
  pub octets : List ℕ
  pub least : setup.first ≤ event
  pub performed : event < next_of setup calls
  pub slot_below : slot < per_event_of setup.info
  pub number_is : number ≡ place_of setup calls bis event slot
  pub in_slot : slots_of setup calls bis event slot ≡ Some octets
  pub accepted : slice_get (given bis calls) number ≡ Some octets
  pub unit_is : unit ≡ valid bis (slot_time (whole_stay setup bis) event slot) octets

pub record InSourceOrder (setup : Setup) (calls : List Call) (bis : ℕ) (units : List Handed) : Type 0 where
  pub numbers : List ℕ
  pub rising : IsStrictlyIncreasing numbers
  pub given : AllZip (IsGiven setup calls bis) numbers units

-- ---- framed streams

-- a sent unit by payload numbers: in the air its numbers count from 0, the first of the source's first event
abbrev pub by_payload : Setup → Sent → Sent
by_payload setup unit = record unit { first = setup.first * setup.info.bn + unit.first }

-- these are the units that the air of a framed stream sends, by payload numbers
pub record AreSent (setup : Setup) (calls : List Call) (bis : ℕ) (air : Air) (units : List Sent) : Type 0 where
  pub in_air : List Sent
  pub sends : Sends setup.info (framed_calls setup bis calls) air in_air
  pub numbered : units ≡ map (by_payload setup) in_air

-- the air sends this unit, by payload numbers, as the one of this number among those that the source accepted on the stream
pub record IsSentAs (setup : Setup) (calls : List Call) (bis : ℕ) (air : Air) (number : ℕ) (given : Timed) (sent : Sent) : Type 0 where
  pub units : List Sent
  pub are_sent : AreSent setup calls bis air units
  pub place : ℕ
  pub is_sent : slice_get units place ≡ Some sent
  pub in_air : Sent
  pub numbered : sent ≡ by_payload setup in_air
  pub is_of : IsOf setup.info.bn (layings_of (framed_calls setup bis calls)) number given in_air

-- the entry is of the unit of this number among those that the source accepted on the stream, which the air sends from a performed event
-- on that was laid after it was accepted: it has the framed time by that event's anchor and the TimeOffset to it, and if valid its octets
pub record IsOfUnit (setup : Setup) (calls : List Call) (bis : ℕ) (air : Air) (number : ℕ) (entry : Handed) : Type 0 where
  pub unit : Timed
  pub sent : Sent
  pub is_sent : IsSentAs setup calls bis air number unit sent
  pub event : ℕ
  pub event_is : event ≡ sent.first / setup.info.bn
  pub least : setup.first ≤ event
  pub performed : event < next_of setup calls
  pub accepted : slice_get (accepted (framed_calls setup bis calls)) number ≡ Some unit
  pub laying : Laying
  pub laid : slice_get (layings_of (framed_calls setup bis calls)) (event - setup.first) ≡ Some laying
  pub before : number < laying.units
  pub ready : unit.time ≤ anchor_in setup event
  pub stream : bis_of entry ≡ bis
  pub time_is : time_in entry ≡ start_time (whole_stay setup bis) event (anchor_in setup event - unit.time)
  pub valid_is : (stream : ℕ) → (time : ℕ) → (octets : List ℕ) → entry ≡ valid stream time octets → octets ≡ unit.octets

pub record InUnitOrder (setup : Setup) (calls : List Call) (bis : ℕ) (air : Air) (entries : List Handed) : Type 0 where
  pub numbers : List ℕ
  pub rising : IsStrictlyIncreasing numbers
  pub each : AllZip (IsOfUnit setup calls bis air) numbers entries
