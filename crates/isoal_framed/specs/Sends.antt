-- The units that an air sends (Core 5.2, volume 6 part G, section 2.2), each told by the numbers that carry it.
use Rattle.std.specs.Prelude.{ℕ, ◌⊎◌, ◌+◌, ◌-◌, ◌*◌, ◌<◌, ◌≤◌, ◌≡◌, true, List, [], ◌∷◌, length, map, Some}
use Rattle.std.specs.List.{range_with_len, slice_get}
use Rattle.big_info.specs.declared.info.BigInfo.{BigInfo}
use Rattle.iso_pdu.specs.Layout.{framed}
use Rattle.iso_pdu.specs.Encoding.{pdu}
use Rattle.isoal_base.specs.Air.{Air}
use Rattle.isoal_framed.specs.Calls.{Call, Laying, Timed, accepted, layings_of}
use Rattle.isoal_framed.specs.Struck.{Sent, Fit, InOrder, octets_in, parts_at}

-- its TimeOffset is from the time of this accepted unit, which is not past it, to the anchor of the event of its first number,
-- and the unit is of this number among those accepted before that event was laid
pub record IsTimed (bn : ℕ) (laid : List Laying) (number : ℕ) (accepted : Timed) (unit : Sent) : Type 0 where
  pub event : ℕ
  pub least : event * bn ≤ unit.first
  pub below : unit.first < event * bn + bn
  pub laying : Laying
  pub laying_is : slice_get laid event ≡ Some laying
  pub before : number < laying.units
  pub ready : accepted.time ≤ laying.anchor
  pub offset : unit.offset ≡ laying.anchor - accepted.time

pub record IsOf (bn : ℕ) (laid : List Laying) (number : ℕ) (accepted : Timed) (unit : Sent) : Type 0 where
  pub octets : unit.whole ≡ true → octets_in unit.segments ≡ accepted.octets
  pub timed : IsTimed bn laid number accepted unit

-- they are some of these accepted units, in order, of which the first has this number
abbrev pub AreOf : ℕ → List Laying → ℕ → List Timed → List Sent → Type 0
AreOf bn laid number accepted [] = Unit {0}
AreOf bn laid number [] (unit ∷ units) = ⊥
AreOf bn laid number (first ∷ accepted) (unit ∷ units) =
    (IsOf bn laid number first unit × AreOf bn laid (number + 1) accepted units) ⊎ AreOf bn laid (number + 1) accepted (unit ∷ units)

abbrev pub EventsAre : BigInfo → Air → List Sent → Type 0
EventsAre info [] units = Unit {0}
EventsAre info (entry ∷ earlier) units = EventsAre info earlier units
    × (entry.event.pdus ≡ map (λ number. pdu (framed (parts_at units number))) (range_with_len (length earlier * info.bn) info.bn))

pub record Sends (info : BigInfo) (calls : List Call) (air : Air) (units : List Sent) : Type 0 where
  pub order : InOrder 0 (length air * info.bn) units
  pub pdus : EventsAre info air units
  pub fit : Fit info.max_sdu units
  pub are : AreOf info.bn (layings_of calls) 0 (accepted calls) units
