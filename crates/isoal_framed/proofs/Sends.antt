-- The units of an air, event by event.
use Rattle.isoal_framed.proofs.Prelude.{ℕ, suc, ◌≡◌, ◌+◌, ◌-◌, ◌*◌, ◌<◌, ◌≤◌, List, [], ◌∷◌, ◌++◌, map, length, take, drop, Option, Some, None, refl, sym, ap, ◌∙◌, subst, arith, length-append, range_with_len, slice_get, true≢false, take-append-drop, BigInfo, framed, pdu, Air, map_same, map_append, AllCome, IsAirOf, pdus_ended, part_of, open_parts, pdus_of, Call, accept, lay, Laying, Timed, accepted, layings_of, Act, carries, leaves_out, ends, Comes, place_of, done, sent, room, AreOf, EventsAre, Sends, Sent, InOrder, octets_in, parts_at}
use Rattle.isoal_framed.specs.Struck.{behind}
use Rattle.isoal_framed.proofs.Senders.{room_between}
use Rattle.isoal_framed.proofs.Segments.{in_place, ends_step, leaves_step, carries_step}
use Rattle.isoal_framed.proofs.Sendings.{all, Chain, get_more, are_more, are_snoc, take_next, taken_before, Sending, Stable, fit_more, Grown, accepted_more, anchored_more}

abbrev pdu_of : List Sent → ℕ → List ℕ
pdu_of units number = pdu (framed (parts_at units number))

-- an event, from its first act on
record Folded (max_pdu max_sdu bn : ℕ) (laid : List Laying) (units : List Timed) (anchor number : ℕ) (earlier acts : List Act) (closed : List Sent) (opened : Option Sent) : Type 0 where
  closed_now : List Sent
  opened_now : Option Sent
  sending : Sending max_pdu max_sdu bn laid units (number + pdus_ended acts) (acts ++ earlier) (open_parts units anchor earlier acts) closed_now opened_now
  pdus : pdus_of units anchor earlier acts ≡ map (pdu_of (all closed_now opened_now)) (range_with_len number (pdus_ended acts))
  stable : Stable number (all closed_now opened_now) (all closed opened)

same_pdus : (now before : List Sent) (number n : ℕ) → Stable (number + n) now before
    → map (pdu_of before) (range_with_len number n) ≡ map (pdu_of now) (range_with_len number n)
same_pdus now before number n stable = grind (arith, map_same, pdu, framed, parts_at)

-- the end of its next PDU
ends_fold : (max_pdu max_sdu bn : ℕ) (laid : List Laying) (units : List Timed) (anchor number : ℕ) (earlier acts : List Act) (closed : List Sent) (opened : Option Sent) → 8 ≤ max_pdu
    → Folded max_pdu max_sdu bn laid units anchor number earlier acts closed opened → Comes (place_of max_pdu units anchor (acts ++ earlier)) ends
    → Folded max_pdu max_sdu bn laid units anchor number earlier (ends ∷ acts) closed opened
ends_fold max_pdu max_sdu bn laid units anchor number earlier acts closed opened wide rest comes =
    let next : number + pdus_ended acts + 1 ≡ number + suc (pdus_ended acts) = omega arith in
    let more_pdus : pdus_ended acts + 1 ≡ suc (pdus_ended acts) = omega arith in
    record {
      closed_now = rest.closed_now;
      opened_now = rest.opened_now;
      sending = subst (λ n. Sending max_pdu max_sdu bn laid units n (ends ∷ (acts ++ earlier)) [] rest.closed_now rest.opened_now) next
          (ends_step max_pdu max_sdu bn laid units anchor (number + pdus_ended acts) (acts ++ earlier) (open_parts units anchor earlier acts)
          rest.closed_now rest.opened_now wide rest.sending comes);
      pdus = grind (arith, pdu, framed, open_parts, map, all, range_with_len, pdus_ended, map_append);
      stable = rest.stable;
    }

event_sends : (max_pdu max_sdu bn : ℕ) (laid : List Laying) (units : List Timed) (anchor number : ℕ) (earlier acts : List Act) (closed : List Sent) (opened : Option Sent) → 8 ≤ max_pdu
    → ((i : ℕ) → (unit : Timed) → slice_get units i ≡ Some unit → length unit.octets ≤ max_sdu)
    → (event : ℕ) → number ≡ event * bn → slice_get laid event ≡ Some (record { anchor = anchor; units = length units }) → pdus_ended acts < bn
    → AllCome max_pdu units anchor earlier acts → Sending max_pdu max_sdu bn laid units number earlier [] closed opened
    → Folded max_pdu max_sdu bn laid units anchor number earlier acts closed opened
event_sends max_pdu max_sdu bn laid units anchor number earlier [] closed opened wide fits event at laying_is few come sending = grind arith
event_sends max_pdu max_sdu bn laid units anchor number earlier (carries count complete ∷ acts) closed opened wide fits event at laying_is few come sending =
    let rest : Folded max_pdu max_sdu bn laid units anchor number earlier acts closed opened =
    event_sends max_pdu max_sdu bn laid units anchor number earlier acts closed opened wide fits event at laying_is few come.0 sending in
    let step : Grown max_pdu max_sdu bn laid units (number + pdus_ended acts) (carries count complete ∷ (acts ++ earlier))
    (open_parts units anchor earlier acts
    ++ part_of anchor (sent (acts ++ earlier)) (slice_get units (done (acts ++ earlier))) count complete ∷ []) rest.closed_now rest.opened_now =
    carries_step max_pdu max_sdu bn laid units anchor (number + pdus_ended acts) (acts ++ earlier) (open_parts units anchor earlier acts) rest.closed_now rest.opened_now
    count complete fits event (omega arith) (omega arith) laying_is rest.sending come.1 in
    record {
      closed_now = step.0;
      opened_now = step.1;
      sending = step.2;
      pdus = rest.pdus ∙ same_pdus (all step.0 step.1) (all rest.closed_now rest.opened_now) number (pdus_ended acts) step.3;
      stable = λ q before. step.3 q (omega arith) ∙ rest.stable q before;
    }
event_sends max_pdu max_sdu bn laid units anchor number earlier (leaves_out ∷ acts) closed opened wide fits event at laying_is few come sending =
    let rest : Folded max_pdu max_sdu bn laid units anchor number earlier acts closed opened =
    event_sends max_pdu max_sdu bn laid units anchor number earlier acts closed opened wide fits event at laying_is few come.0 sending in
    record {
      closed_now = rest.closed_now;
      opened_now = rest.opened_now;
      sending = grind (arith, leaves_step, pdus_ended, open_parts);
      pdus = rest.pdus;
      stable = rest.stable;
    }
event_sends max_pdu max_sdu bn laid units anchor number earlier (ends ∷ acts) closed opened wide fits event at laying_is few come sending =
    ends_fold max_pdu max_sdu bn laid units anchor number earlier acts closed opened wide
    (event_sends max_pdu max_sdu bn laid units anchor number earlier acts closed opened wide fits event at laying_is (omega arith) come.0 sending) come.1

-- events stay as later units come
events_stay : (info : BigInfo) (air : Air) (now before : List Sent) → Stable (length air * info.bn) now before → EventsAre info air before → EventsAre info air now
events_stay info [] now before stable events = tt
events_stay info (entry ∷ earlier) now before stable events =
    let all_numbers : suc (length earlier) * info.bn ≡ length earlier * info.bn + info.bn = omega arith in (
      events_stay info earlier now before (λ q below. stable q (omega arith)) events.0,
      events.1 ∙ same_pdus now before (length earlier * info.bn) info.bn (λ q below. stable q (omega arith)),
    )

-- as many events are laid as the air has
layings_count : (info : BigInfo) (calls : List Call) (acts : List Act) (air : Air) → IsAirOf info calls acts air → length (layings_of calls) ≡ length air
layings_count info [] acts air is = ap length (sym is.1)
layings_count info (accept time octets ∷ calls) acts air is = layings_count info calls acts air is
layings_count info (lay anchor ∷ calls) acts air (earlier, before, own, is_before, event, acts_is, air_is) =
    let rest : length (layings_of calls) ≡ length before = layings_count info calls earlier before is_before in
    length-append (layings_of calls) (record { anchor = anchor; units = length (accepted calls) } ∷ []) ∙ ap (λ n. n + 1) rest ∙ omega arith ∙ ap length (sym air_is)

get_last : {A : Type 0} (items : List A) (last : A) (n : ℕ) → length items ≡ n → slice_get (items ++ last ∷ []) n ≡ Some last
get_last (x ∷ items) last (suc n) is = get_last items last n (omega arith)
get_last items last n is = search

record Aired (info : BigInfo) (laid : List Laying) (units : List Timed) (acts : List Act) (air : Air) : Type 0 where
  closed : List Sent
  opened : Option Sent
  sending : Sending info.max_pdu info.max_sdu info.bn laid units (length air * info.bn) acts [] closed opened
  events : EventsAre info air (all closed opened)

air_sends : (info : BigInfo) (calls : List Call) (acts : List Act) (air : Air) → 8 ≤ info.max_pdu
    → ((i : ℕ) → (unit : Timed) → slice_get (accepted calls) i ≡ Some unit → length unit.octets ≤ info.max_sdu)
    → IsAirOf info calls acts air → Aired info (layings_of calls) (accepted calls) acts air
air_sends info [] acts air wide fits is =
    let count : length air ≡ 0 = ap length is.1 in
    let start_number : length air * info.bn ≡ 0 = ap (λ n. n * info.bn) count ∙ omega arith in
    record { closed = []; opened = None; sending = grind (arith, sent); events = subst (λ a. EventsAre info a []) (sym is.1) tt }
air_sends info (accept time octets ∷ calls) acts air wide fits is =
    let rest : Aired info (layings_of calls) (accepted calls) acts air =
    air_sends info calls acts air wide (λ i unit there. fits i unit (get_more (accepted calls) (record { time = time; octets = octets }) i unit there)) is in
    record {
      closed = rest.closed;
      opened = rest.opened;
      sending = grind (arith, accepted_more, layings_of, accepted, length);
      events = rest.events;
    }
air_sends info (lay anchor ∷ calls) acts air wide fits (earlier, before, own, is_before, event, acts_is, air_is) =
    let laying : Laying = record { anchor = anchor; units = length (accepted calls) } in
    let rest : Aired info (layings_of calls) (accepted calls) earlier before = air_sends info calls earlier before wide fits is_before in
    let first : Sending info.max_pdu info.max_sdu info.bn (layings_of (lay anchor ∷ calls)) (accepted calls) (length before * info.bn) earlier [] rest.closed rest.opened =
    anchored_more info.max_pdu info.max_sdu info.bn (layings_of calls) (accepted calls) laying (length before * info.bn) earlier [] rest.closed rest.opened rest.sending in
    let few : pdus_ended own < info.bn = (let whole : suc (pdus_ended own) ≡ info.bn = event.all in omega arith) in
    let laid : Folded info.max_pdu info.max_sdu info.bn (layings_of (lay anchor ∷ calls)) (accepted calls) anchor (length before * info.bn) earlier (ends ∷ own) rest.closed rest.opened =
    ends_fold info.max_pdu info.max_sdu info.bn (layings_of (lay anchor ∷ calls)) (accepted calls) anchor (length before * info.bn) earlier own rest.closed rest.opened wide
    (grind (arith, event_sends, layings_of, lay, accepted, length, get_last, layings_count)) event.come.1 in
    let count : length air ≡ suc (length before) = ap length air_is in
    let numbers : length before * info.bn + pdus_ended (ends ∷ own) ≡ length air * info.bn =
    ap (λ n. length before * info.bn + n) event.all ∙ omega arith ∙ ap (λ n. n * info.bn) (sym count) in
    record {
      closed = laid.closed_now;
      opened = laid.opened_now;
      sending = grind (arith, layings_of, lay, accepted, length, pdus_ended, ends);
      events = grind (arith, all, events_stay, map, range_with_len, length);
    }

-- the units in order
chain_order : (from to laid : ℕ) (units : List Sent) → Chain from to units → InOrder from laid units
chain_order from to laid [] chain = tt
chain_order from to laid (unit ∷ units) chain =
    (chain.0, chain.1, λ part. absurd (true≢false (sym chain.2 ∙ part)), chain_order (behind unit - 1) to laid units chain.3)

chain_order_last : (from to laid : ℕ) (units : List Sent) (unit : Sent) → Chain from to units → to ≤ unit.first → 1 ≤ length unit.segments → laid ≤ behind unit
    → InOrder from laid (units ++ unit ∷ [])
chain_order_last from to laid [] unit chain least some end = ((let low : from ≤ to = chain in omega arith), some, λ part. (refl, end), tt)
chain_order_last from to laid (first ∷ units) unit chain least some end =
    (chain.0, chain.1, λ part. absurd (true≢false (sym chain.2 ∙ part)), chain_order_last (behind first - 1) to laid units unit chain.3 least some end)

sends_all : (info : BigInfo) (calls : List Call) (acts : List Act) (air : Air) (closed : List Sent) (opened : Option Sent) → 8 ≤ info.max_pdu
    → ((i : ℕ) → (unit : Timed) → slice_get (accepted calls) i ≡ Some unit → length unit.octets ≤ info.max_sdu)
    → room info.max_pdu acts ≡ info.max_pdu
    → Sending info.max_pdu info.max_sdu info.bn (layings_of calls) (accepted calls) (length air * info.bn) acts [] closed opened
    → EventsAre info air (all closed opened) → Sends info calls air (all closed opened)
sends_all info calls acts air closed None wide fits whole sending events = record {
  order = chain_order 0 sending.low (length air * info.bn) closed sending.chain;
  pdus = events;
  fit = sending.fit;
  are = subst (λ xs. AreOf info.bn (layings_of calls) 0 xs closed) (take-append-drop (done acts) (accepted calls))
      (are_more info.bn (layings_of calls) 0 (take (done acts) (accepted calls)) (drop (done acts) (accepted calls)) closed sending.closed_of);
}
sends_all info calls acts air closed (Some unit) wide fits whole sending events =
    let at : behind unit ≡ length air * info.bn =
    in_place info.max_pdu info.max_sdu sending.low (length air * info.bn) (sent acts) (room info.max_pdu acts) unit sending.open_is (omega arith) in
    let known : (due : Timed) × (slice_get (accepted calls) (done acts) ≡ Some due) × (sent acts ≤ length due.octets) = sending.due sending.open_is.begun in
    let few : length (octets_in unit.segments) ≤ sent acts = sending.open_is.octets in
    let room_is : length known.0.octets ≤ info.max_sdu = fits (done acts) known.0 known.1 in
    let within : sent acts ≤ length known.0.octets = known.2 in
    let snoc : AreOf info.bn (layings_of calls) 0 (take (done acts) (accepted calls) ++ sending.open_of.0 ∷ []) (closed ++ unit ∷ []) =
    are_snoc info.bn (layings_of calls) 0 (done acts) (take (done acts) (accepted calls)) closed sending.open_of.0 unit sending.closed_of
    (taken_before (accepted calls) (done acts) sending.open_of.0 sending.open_of.1)
    (record { octets = λ is. absurd (true≢false (sym is ∙ sending.open_is.part)); timed = sending.open_of.3 }) in
    record {
      order = chain_order_last 0 sending.low (length air * info.bn) closed unit sending.chain sending.open_is.least sending.open_is.some (omega arith);
      pdus = events;
      fit = fit_more info.max_sdu closed unit sending.fit (omega arith);
      are = subst (λ xs. AreOf info.bn (layings_of calls) 0 xs (closed ++ unit ∷ [])) (take-append-drop (done acts + 1) (accepted calls))
          (grind (arith, are_more, layings_of, take, done, accepted, drop, take_next));
    }

pub air_is_sent : (info : BigInfo) (calls : List Call) (acts : List Act) (air : Air) → 8 ≤ info.max_pdu
    → ((i : ℕ) → (unit : Timed) → slice_get (accepted calls) i ≡ Some unit → length unit.octets ≤ info.max_sdu)
    → IsAirOf info calls acts air → (units : List Sent) × Sends info calls air units
air_is_sent info calls acts air wide fits is =
    let aired : Aired info (layings_of calls) (accepted calls) acts air = air_sends info calls acts air wide fits is in (
      all aired.closed aired.opened,
      sends_all info calls acts air aired.closed aired.opened wide fits (room_between info.max_pdu info calls acts air is) aired.sending aired.events,
    )
