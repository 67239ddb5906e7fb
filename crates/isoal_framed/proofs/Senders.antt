-- A sender that stands for its calls stands for them and one more.
use Rattle.isoal_framed.proofs.Prelude.{ℕ, ◌≡◌, ◌≤◌, true, false, List, [], ◌∷◌, ◌++◌, length, drop, ap, ◌∙◌, arith, length-append, drop-append-le, slice_get_within, BigInfo, Laid, Air, AllCome, IsEvent, IsAirOf, begun_by, Call, accept, lay, Timed, accepted, Act, carries, leaves_out, ends, done, sent, room, Sender, IsSender, StandsFor, with_unit}
use Rattle.isoal_framed.specs.Air.{event_of}

-- between two events a PDU begins
pub room_between : (max_pdu : ℕ) (info : BigInfo) (calls : List Call) (acts : List Act) (air : Air) → IsAirOf info calls acts air → room max_pdu acts ≡ max_pdu
room_between max_pdu info (accept time octets ∷ calls) acts air is = room_between max_pdu info calls acts air is
room_between max_pdu info calls acts air is = search

-- no more units are done than were accepted
pub done_come : (max_pdu : ℕ) (units : List Timed) (anchor : ℕ) (earlier acts : List Act) → AllCome max_pdu units anchor earlier acts
    → done earlier ≤ length units → done (acts ++ earlier) ≤ length units
done_come max_pdu units anchor earlier [] come within = within
done_come max_pdu units anchor earlier (carries count true ∷ acts) come within = grind (arith, slice_get_within)
done_come max_pdu units anchor earlier (carries count false ∷ acts) come within = done_come max_pdu units anchor earlier acts come.0 within
done_come max_pdu units anchor earlier (leaves_out ∷ acts) come within = grind (arith, slice_get_within)
done_come max_pdu units anchor earlier (ends ∷ acts) come within = done_come max_pdu units anchor earlier acts come.0 within

pub done_within : (info : BigInfo) (calls : List Call) (acts : List Act) (air : Air) → IsAirOf info calls acts air → done acts ≤ length (accepted calls)
done_within info [] acts air is = let none : done acts ≡ 0 = ap done is.0 in omega arith
done_within info (accept time octets ∷ calls) acts air is = grind (arith, done_within info calls acts air is, length-append (accepted calls) (record { time = time; octets = octets } ∷ []))
done_within info (lay anchor ∷ calls) acts air (earlier, before, own, is_before, event, acts_is, air_is) = grind (arith, done_come info.max_pdu (accepted calls) anchor earlier (ends ∷ own) event.come (done_within info calls earlier before is_before))

pub accept_stands : (info : BigInfo) (calls : List Call) (air : Air) (sender : Sender) (time : ℕ) (octets : List ℕ)
    → StandsFor info calls air sender → StandsFor info (accept time octets ∷ calls) air (with_unit sender time octets)
accept_stands info calls air sender time octets stands = grind (arith, drop-append-le, done_within)

pub lay_stands : (info : BigInfo) (calls : List Call) (air : Air) (old new : Sender) (anchor : ℕ) (event : Laid) (own : List Act)
    → (stands : StandsFor info calls air old) → IsEvent old.info (accepted calls) anchor stands.acts own
    → event ≡ event_of (accepted calls) anchor stands.acts (ends ∷ own)
    → new ≡ record old { units = drop (done (own ++ stands.acts)) (accepted calls); sent = sent (own ++ stands.acts) }
    → (begun : ℕ) × StandsFor info (lay anchor ∷ calls) (record { event = event; begun = begun } ∷ air) new
lay_stands info calls air old new anchor event own stands is event_is new_is = (
  begun_by (ends ∷ own ++ stands.acts),
  record {
    acts = ends ∷ own ++ stands.acts;
    group = ap (λ s. s.info) new_is ∙ stands.group;
    air_is = grind arith;
    last = ap (λ s. s.last) new_is ∙ stands.last;
    units = ap (λ s. s.units) new_is;
    sent = ap (λ s. s.sent) new_is;
  },
)

no_units : (unit : Timed) (units : List Timed) → unit ∷ units ≡ [] → ⊥
no_units unit units nothing = cc

-- a sender with one more unit
pub accepted_sender : (info : BigInfo) (sent_now : ℕ) (units : List Timed) (unit : Timed) → IsSender info sent_now units
    → IsSender info sent_now (units ++ unit ∷ [])
accepted_sender info sent_now [] unit is = grind arith
accepted_sender info sent_now (other ∷ units) unit is = grind (arith, no_units)
