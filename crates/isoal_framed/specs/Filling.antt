-- An air that is laid act by act (Core 5.2, volume 6 part G, section 2.2), with PDUs filled greedily, which is this
-- project's own: the one that the conditions of FramedAir are met by.
use Rattle.std.specs.Prelude.{ℕ, zero, suc, ◌+◌, ◌*◌, ◌==◌, List, [], ◌∷◌, ◌++◌, length, if◌then◌else◌}
use Rattle.std.specs.List.{slice_get}
use Rattle.big_info.specs.declared.info.BigInfo.{BigInfo}
use Rattle.isoal_base.specs.Air.{Air}
use Rattle.isoal_framed.specs.Air.{pdus_ended, event_of, begun_by}
use Rattle.isoal_framed.specs.Calls.{Call, accept, lay, Timed, accepted}
use Rattle.isoal_framed.specs.Greedy.{act_of}
use Rattle.isoal_framed.specs.Places.{Act, room, sent, done}

-- what comes behind these acts
abbrev pub next_act : ℕ → List Timed → ℕ → List Act → Act
next_act max_pdu units anchor acts = act_of anchor (room max_pdu acts) (sent acts) (slice_get units (done acts))

-- one more act of an event, unless its PDUs have all ended
abbrev pub with_next : BigInfo → List Timed → ℕ → List Act → List Act → List Act
with_next info units anchor earlier acts =
    if pdus_ended acts == info.bn then acts else next_act info.max_pdu units anchor (acts ++ earlier) ∷ acts

-- at most so many acts of an event
abbrev pub filled : BigInfo → List Timed → ℕ → List Act → ℕ → List Act
filled info units anchor earlier zero = []
filled info units anchor earlier (suc n) = with_next info units anchor earlier (filled info units anchor earlier n)

-- all acts of an event: it ends a PDU, fills one that then ends, or is done with a unit
abbrev pub event_acts : BigInfo → List Timed → ℕ → List Act → List Act
event_acts info units anchor earlier = filled info units anchor earlier (2 * info.bn + length units)

-- the acts of the events of these calls
abbrev pub acts_of : BigInfo → List Call → List Act
acts_of info [] = []
acts_of info (accept time octets ∷ calls) = acts_of info calls
acts_of info (lay anchor ∷ calls) = event_acts info (accepted calls) anchor (acts_of info calls) ++ acts_of info calls

-- the air of these calls
abbrev pub framed_air : BigInfo → List Call → Air
framed_air info [] = []
framed_air info (accept time octets ∷ calls) = framed_air info calls
framed_air info (lay anchor ∷ calls) =
    record {
      event = event_of (accepted calls) anchor (acts_of info calls) (event_acts info (accepted calls) anchor (acts_of info calls));
      begun = begun_by (acts_of info (lay anchor ∷ calls));
    }
    ∷ framed_air info calls
