-- FramedAir: what a sender of a framed stream lays (Core 5.2, volume 6 part G, section 2.2). A relation: the acts of
-- each event meet the conditions on their places, and the PDUs are the encoding of these acts.
use Rattle.std.specs.Prelude.{ℕ, suc, ◌+◌, ◌-◌, ◌≡◌, ◌==◌, Bool, List, [], ◌∷◌, ◌++◌, take, drop, Option, Some, None, if◌then◌else◌}
use Rattle.std.specs.List.{slice_get}
use Rattle.big_info.specs.declared.info.BigInfo.{BigInfo}
use Rattle.iso_pdu.specs.Layout.{Part, start, more, framed}
use Rattle.iso_pdu.specs.Encoding.{pdu}
use Rattle.isoal_base.specs.Air.{Laid, Air}
use Rattle.isoal_framed.specs.Calls.{Call, accept, lay, Timed, accepted}
use Rattle.isoal_framed.specs.Places.{Act, carries, leaves_out, ends, done, sent, place_of, Comes}

-- each of these acts comes at its place, behind the earlier ones
abbrev pub AllCome : ℕ → List Timed → ℕ → List Act → List Act → Type 0
AllCome max_pdu units anchor earlier [] = Unit {0}
AllCome max_pdu units anchor earlier (act ∷ acts) =
    AllCome max_pdu units anchor earlier acts × Comes (place_of max_pdu units anchor (acts ++ earlier)) act

abbrev pub pdus_ended : List Act → ℕ
pdus_ended [] = 0
pdus_ended (ends ∷ acts) = suc (pdus_ended acts)
pdus_ended (_ ∷ acts) = pdus_ended acts

-- the acts of an event, with the end of its last PDU: those of `bn` PDUs
pub record IsEvent (info : BigInfo) (units : List Timed) (anchor : ℕ) (earlier acts : List Act) : Type 0 where
  pub come : AllCome info.max_pdu units anchor earlier (ends ∷ acts)
  pub all : pdus_ended (ends ∷ acts) ≡ info.bn

abbrev pub part_of : ℕ → ℕ → Option Timed → ℕ → Bool → Part
part_of anchor sent None count complete = more complete []
part_of anchor sent (Some unit) count complete = if sent == 0 then start (anchor - unit.time) complete (take count unit.octets)
    else more complete (take count (drop sent unit.octets))

abbrev pub time_in : Option Timed → List ℕ
time_in None = []
time_in (Some unit) = unit.time ∷ []

-- the segments of the PDU that hasn't ended
abbrev pub open_parts : List Timed → ℕ → List Act → List Act → List Part
open_parts units anchor earlier (carries count complete ∷ acts) = open_parts units anchor earlier acts
    ++ part_of anchor (sent (acts ++ earlier)) (slice_get units (done (acts ++ earlier))) count complete ∷ []
open_parts units anchor earlier (leaves_out ∷ acts) = open_parts units anchor earlier acts
open_parts units anchor earlier _ = []

abbrev pub pdus_of : List Timed → ℕ → List Act → List Act → List (List ℕ)
pdus_of units anchor earlier [] = []
pdus_of units anchor earlier (ends ∷ acts) = pdus_of units anchor earlier acts ++ pdu (framed (open_parts units anchor earlier acts)) ∷ []
pdus_of units anchor earlier (_ ∷ acts) = pdus_of units anchor earlier acts

abbrev pub stale_of : List Timed → List Act → List Act → List ℕ
stale_of units earlier [] = []
stale_of units earlier (leaves_out ∷ acts) = stale_of units earlier acts ++ time_in (slice_get units (done (acts ++ earlier)))
stale_of units earlier (_ ∷ acts) = stale_of units earlier acts

abbrev pub event_of : List Timed → ℕ → List Act → List Act → Laid
event_of units anchor earlier acts = record { pdus = pdus_of units anchor earlier acts; stale = stale_of units earlier acts }

-- how many units have started or were left out
abbrev pub begun_by : List Act → ℕ
begun_by acts = done acts + (if sent acts == 0 then 0 else 1)

-- the air of these calls, whose acts are these
abbrev pub IsAirOf : BigInfo → List Call → List Act → Air → Type 0
IsAirOf info [] acts air = (acts ≡ []) × (air ≡ [])
IsAirOf info (accept time octets ∷ calls) acts air = IsAirOf info calls acts air
IsAirOf info (lay anchor ∷ calls) acts air =
    (earlier : List Act) × (before : Air) × (own : List Act) × IsAirOf info calls earlier before × IsEvent info (accepted calls) anchor earlier own
    × (acts ≡ ends ∷ own ++ earlier)
    × (air ≡ record { event = event_of (accepted calls) anchor earlier (ends ∷ own); begun = begun_by acts } ∷ before)

abbrev pub IsFramedAir : BigInfo → List Call → Air → Type 0
IsFramedAir info calls air = (acts : List Act) × IsAirOf info calls acts air
