-- What an act adds to the units that were sent: a start, a further segment, a unit left out, the end of a PDU.
use Rattle.isoal_framed.proofs.Prelude.{ℕ, ◌≡◌, ◌+◌, ◌-◌, ◌*◌, ◌<◌, ◌≤◌, inr, true, false, Bool, List, [], ◌∷◌, ◌++◌, length, take, drop, Option, Some, None, refl, sym, ◌∙◌, subst, arith, length-append, slice_get, cond-true, cond-false, eq-eqb, ne_eqb, false≢true, append-nil, length-take, take_all, slice_get_within, Part, start, more, part_of, Laying, Timed, Act, carries, leaves_out, ends, Comes, IsSegment, place_of, overhead, least_room, done, sent, room, IsTimed, AreOf, Sent, octets_in, parts_at, take-add}
use Rattle.std.proofs.Math.Bool.{and-true}
use Rattle.isoal_framed.specs.Struck.{behind}
use Rattle.isoal_framed.proofs.Stays.{carried_past}
use Rattle.isoal_framed.proofs.Entries.{carried_before, carried_here}
use Rattle.isoal_framed.proofs.Sendings.{chain_more, Open, are_more, are_snoc, take_next, octets_snoc, get_same, taken_before, Sending, at_least}
use Rattle.isoal_framed.proofs.Sendings.{Stable, parts_last, fit_more, snoc_before, snoc_here, chain_past, Grown}

-- a start
new_part : (units : List Timed) (anchor : ℕ) (acts : List Act) (count : ℕ) (complete : Bool) (unit : Timed) → slice_get units (done acts) ≡ Some unit → sent acts ≡ 0
    → part_of anchor (sent acts) (slice_get units (done acts)) count complete ≡ start (anchor - unit.time) complete (take count unit.octets)
new_part units anchor acts count complete unit due fresh = search (cond-true, eq-eqb)

new_here : (number offset : ℕ) (octets : List ℕ) (complete : Bool) (closed : List Sent) (parts : List Part) (part : Part) → parts ≡ parts_at closed number
    → part ≡ start offset complete octets
    → parts ++ part ∷ [] ≡ parts_at (closed ++ record { first = number; offset = offset; segments = octets ∷ []; whole = complete } ∷ []) number
new_here number offset octets complete closed parts part here is = grind (arith, and-true, carried_here, parts_last)

new_stable : (number offset : ℕ) (octets : List ℕ) (complete : Bool) (closed : List Sent)
    → Stable number (closed ++ record { first = number; offset = offset; segments = octets ∷ []; whole = complete } ∷ []) closed
new_stable number offset octets complete closed q before = search (parts_last, carried_before, append-nil)

take_fits : (count most : ℕ) (octets : List ℕ) → count ≤ most → length (take count octets ++ []) ≤ most
take_fits count most octets within = omega (arith, length-append (take count octets) [], length-take count octets)

start_step : (max_pdu max_sdu bn : ℕ) (laid : List Laying) (units : List Timed) (anchor number : ℕ) (acts : List Act) (parts : List Part) (closed : List Sent) (count : ℕ) (complete : Bool)
    (unit : Timed)
    → Sending max_pdu max_sdu bn laid units number acts parts closed None → slice_get units (done acts) ≡ Some unit → length unit.octets ≤ max_sdu
    → IsSegment (place_of max_pdu units anchor acts) unit count complete
    → IsTimed bn laid (done acts) unit (record { first = number; offset = anchor - unit.time; segments = take count unit.octets ∷ []; whole = complete })
    → Grown max_pdu max_sdu bn laid units number (carries count complete ∷ acts)
    (parts ++ part_of anchor (sent acts) (slice_get units (done acts)) count complete ∷ []) closed None
start_step max_pdu max_sdu bn laid units anchor number acts parts closed count true unit sending due fits segment timed =
    let within : sent acts + count ≤ length unit.octets = segment.within in (
      closed ++ record { first = number; offset = anchor - unit.time; segments = take count unit.octets ∷ []; whole = true } ∷ [],
      None,
      record {
        low = number;
        chain = grind (arith, chain_more, take);
        low_is = omega arith;
        open_is = refl;
        due = λ some. absurd (omega arith);
        here = grind (arith, new_here, take, part_of, sent, slice_get, done, new_part);
        fit = grind (arith, fit_more, take, take_fits);
        closed_of = subst (λ xs. AreOf bn laid 0 xs
            (closed ++ record { first = number; offset = anchor - unit.time; segments = take count unit.octets ∷ []; whole = true } ∷ []))
            (sym (take_next units (done acts) unit due)) (are_snoc bn laid 0 (done acts) (take (done acts) units) closed unit
            (record { first = number; offset = anchor - unit.time; segments = take count unit.octets ∷ []; whole = true }) sending.closed_of
            (taken_before units (done acts) unit due) (grind (arith, append-nil, take, take_all, sent, length)));
        open_of = tt;
      },
      new_stable number (anchor - unit.time) (take count unit.octets) true closed,
    )
start_step max_pdu max_sdu bn laid units anchor number acts parts closed count false unit sending due fits segment timed =
    let within : sent acts + count ≤ length unit.octets = segment.within in
    let fills : overhead (sent acts) + count ≡ room max_pdu acts = segment.fills refl in
    let some : 1 ≤ count = grind (arith, at_least, false≢true, length, sent) in (
      closed,
      Some (record { first = number; offset = anchor - unit.time; segments = take count unit.octets ∷ []; whole = false }),
      grind (arith, take_fits, sent, new_here, take, part_of, slice_get, done, new_part, append-nil),
      new_stable number (anchor - unit.time) (take count unit.octets) false closed,
    )

-- a further segment
further_part : (units : List Timed) (anchor : ℕ) (acts : List Act) (count : ℕ) (complete : Bool) (unit : Timed) → slice_get units (done acts) ≡ Some unit → 1 ≤ sent acts
    → part_of anchor (sent acts) (slice_get units (done acts)) count complete ≡ more complete (take count (drop (sent acts) unit.octets))
further_part units anchor acts count complete unit due begun = grind (arith, cond-false, ne_eqb)

abbrev longer : List ℕ → Bool → Sent → Sent
longer octets complete unit = record { first = unit.first; offset = unit.offset; segments = unit.segments ++ octets ∷ []; whole = complete }

further_here : (number : ℕ) (octets : List ℕ) (complete : Bool) (closed : List Sent) (unit : Sent) (parts : List Part) (part : Part)
    → parts ≡ parts_at (closed ++ unit ∷ []) number → part ≡ more complete octets → 1 ≤ length unit.segments → behind unit ≡ number
    → parts ++ part ∷ [] ≡ parts_at (closed ++ longer octets complete unit ∷ []) number
further_here number octets complete closed unit parts part here is some at = grind (arith, parts_last, carried_past, append-nil, and-true, snoc_here)

further_stable : (number : ℕ) (octets : List ℕ) (complete : Bool) (closed : List Sent) (unit : Sent) → unit.whole ≡ false → behind unit ≡ number
    → Stable number (closed ++ longer octets complete unit ∷ []) (closed ++ unit ∷ [])
further_stable number octets complete closed unit part at q before = grind (arith, parts_last, snoc_before)

longer_octets : (octets : List ℕ) (segments : List (List ℕ)) → length (octets_in (segments ++ octets ∷ [])) ≡ length (octets_in segments) + length octets
longer_octets octets [] = length-append octets [] ∙ omega arith
longer_octets octets (segment ∷ segments) = grind (arith, length-append segment (octets_in (segments ++ octets ∷ [])), longer_octets octets segments, length-append segment (octets_in segments))

further_fits : (count most : ℕ) (octets : List ℕ) (unit : Sent) (complete : Bool) → length (octets_in unit.segments) + count ≤ most
    → length (octets_in (longer (take count octets) complete unit).segments) ≤ most
further_fits count most octets unit complete within = grind (arith, longer_octets, length-take)

-- there is room for a further segment
three : (sent_now count room_now : ℕ) → 1 ≤ sent_now → 1 ≤ count → least_room sent_now count ≤ room_now → 3 ≤ room_now
three sent_now count room_now begun some roomy = grind (arith, cond-false, ne_eqb)

-- a unit with one more segment
longer_is : (units : List Timed) (acts : List Act) (count : ℕ) (before : Sent) (unit timed : Timed) → slice_get units (done acts) ≡ Some timed
    → slice_get units (done acts) ≡ Some unit → octets_in before.segments ≡ take (sent acts) timed.octets
    → octets_in (before.segments ++ take count (drop (sent acts) unit.octets) ∷ []) ≡ take (sent acts + count) unit.octets
longer_is units acts count before unit timed is due octets = grind (arith, octets_snoc, get_same, take-add)

longer_timed : (bn : ℕ) (laid : List Laying) (units : List Timed) (acts : List Act) (octets : List ℕ) (complete : Bool) (before : Sent) (unit timed : Timed)
    → slice_get units (done acts) ≡ Some timed → slice_get units (done acts) ≡ Some unit → IsTimed bn laid (done acts) timed before
    → IsTimed bn laid (done acts) unit (longer octets complete before)
longer_timed bn laid units acts octets complete before unit timed is due was = grind (arith, get_same)

pub in_place : (max_pdu max_sdu low number sent_now room_now : ℕ) (unit : Sent) → Open max_pdu max_sdu low number sent_now room_now unit → 3 ≤ room_now
    → behind unit ≡ number
in_place max_pdu max_sdu low number sent_now room_now unit open_is roomy = grind arith

goes_on_step : (max_pdu max_sdu bn : ℕ) (laid : List Laying) (units : List Timed) (anchor number : ℕ) (acts : List Act) (parts : List Part) (closed : List Sent) (before : Sent)
    (count : ℕ) (complete : Bool) (unit : Timed)
    → Sending max_pdu max_sdu bn laid units number acts parts closed (Some before) → slice_get units (done acts) ≡ Some unit → length unit.octets ≤ max_sdu
    → 3 ≤ room max_pdu acts → IsSegment (place_of max_pdu units anchor acts) unit count complete
    → Grown max_pdu max_sdu bn laid units number (carries count complete ∷ acts)
    (parts ++ part_of anchor (sent acts) (slice_get units (done acts)) count complete ∷ []) closed (Some before)
goes_on_step max_pdu max_sdu bn laid units anchor number acts parts closed before count true unit sending due fits roomy segment =
    let within : sent acts + count ≤ length unit.octets = segment.within in
    let at : behind before ≡ number = in_place max_pdu max_sdu sending.low number (sent acts) (room max_pdu acts) before sending.open_is roomy in
    let few : length (octets_in before.segments) ≤ sent acts = sending.open_is.octets in
    let some : 1 ≤ length before.segments = sending.open_is.some in
    let begun : 1 ≤ sent acts = sending.open_is.begun in
    let more_segments : length (before.segments ++ take count (drop (sent acts) unit.octets) ∷ []) ≡ length before.segments + 1 =
    length-append before.segments (take count (drop (sent acts) unit.octets) ∷ []) in (
      closed ++ longer (take count (drop (sent acts) unit.octets)) true before ∷ [],
      None,
      record {
        low = number;
        chain = grind (arith, chain_more, take, drop, sent);
        low_is = omega arith;
        open_is = refl;
        due = λ some_sent. absurd (omega arith);
        here = grind (arith, further_here, take, drop, sent, part_of, slice_get, done, further_part);
        fit = fit_more max_sdu closed (longer (take count (drop (sent acts) unit.octets)) true before) sending.fit
            (further_fits count max_sdu (drop (sent acts) unit.octets) before true (omega arith));
        closed_of = subst (λ xs. AreOf bn laid 0 xs (closed ++ longer (take count (drop (sent acts) unit.octets)) true before ∷ []))
            (sym (take_next units (done acts) unit due))
            (are_snoc bn laid 0 (done acts) (take (done acts) units) closed unit (longer (take count (drop (sent acts) unit.octets)) true before) sending.closed_of
            (taken_before units (done acts) unit due) (grind (arith, longer_is, take_all, sent, length, longer_timed, take, drop)));
        open_of = tt;
      },
      further_stable number (take count (drop (sent acts) unit.octets)) true closed before sending.open_is.part at,
    )
goes_on_step max_pdu max_sdu bn laid units anchor number acts parts closed before count false unit sending due fits roomy segment =
    let within : sent acts + count ≤ length unit.octets = segment.within in
    let fills : overhead (sent acts) + count ≡ room max_pdu acts = segment.fills refl in
    let at : behind before ≡ number = in_place max_pdu max_sdu sending.low number (sent acts) (room max_pdu acts) before sending.open_is roomy in
    let few : length (octets_in before.segments) ≤ sent acts = sending.open_is.octets in
    let some : 1 ≤ length before.segments = sending.open_is.some in
    let begun : 1 ≤ sent acts = sending.open_is.begun in
    let more_segments : length (before.segments ++ take count (drop (sent acts) unit.octets) ∷ []) ≡ length before.segments + 1 =
    length-append before.segments (take count (drop (sent acts) unit.octets) ∷ []) in (
      closed,
      Some (longer (take count (drop (sent acts) unit.octets)) false before),
      record {
        low = sending.low;
        chain = sending.chain;
        low_is = sending.low_is;
        open_is = record {
          part = refl;
          least = sending.open_is.least;
          some = omega arith;
          begun = omega arith;
          place = inr (omega (arith, at), omega arith);
          octets = further_fits count (sent acts + count) (drop (sent acts) unit.octets) before false (omega arith);
        };
        due = λ some_sent. (unit, due, within);
        here = grind (arith, further_here, take, drop, sent, part_of, slice_get, done, further_part);
        fit = sending.fit;
        closed_of = sending.closed_of;
        open_of = grind (arith, longer_is, longer_timed, take, drop, sent);
      },
      further_stable number (take count (drop (sent acts) unit.octets)) false closed before sending.open_is.part at,
    )

-- the end of a PDU
pub ends_step : (max_pdu max_sdu bn : ℕ) (laid : List Laying) (units : List Timed) (anchor number : ℕ) (acts : List Act) (parts : List Part) (closed : List Sent) (opened : Option Sent) → 8 ≤ max_pdu
    → Sending max_pdu max_sdu bn laid units number acts parts closed opened → Comes (place_of max_pdu units anchor acts) ends
    → Sending max_pdu max_sdu bn laid units (number + 1) (ends ∷ acts) [] closed opened
ends_step max_pdu max_sdu bn laid units anchor number acts parts closed opened wide sending comes = grind (arith, chain_past, cond-false, ne_eqb, parts_last, carried_past)

-- a unit that is left out
pub leaves_step : (max_pdu max_sdu bn : ℕ) (laid : List Laying) (units : List Timed) (number : ℕ) (acts : List Act) (parts : List Part) (closed : List Sent) (opened : Option Sent)
    → Sending max_pdu max_sdu bn laid units number acts parts closed opened → sent acts ≡ 0
    → Sending max_pdu max_sdu bn laid units number (leaves_out ∷ acts) parts closed opened
leaves_step max_pdu max_sdu bn laid units number acts parts closed opened sending fresh = grind (arith, take-add, are_more)

-- a segment
pub carries_step : (max_pdu max_sdu bn : ℕ) (laid : List Laying) (units : List Timed) (anchor number : ℕ) (acts : List Act) (parts : List Part) (closed : List Sent) (opened : Option Sent)
    (count : ℕ) (complete : Bool) → ((i : ℕ) → (unit : Timed) → slice_get units i ≡ Some unit → length unit.octets ≤ max_sdu)
    → (event : ℕ) → event * bn ≤ number → number < event * bn + bn → slice_get laid event ≡ Some (record { anchor = anchor; units = length units })
    → Sending max_pdu max_sdu bn laid units number acts parts closed opened → Comes (place_of max_pdu units anchor acts) (carries count complete)
    → Grown max_pdu max_sdu bn laid units number (carries count complete ∷ acts)
    (parts ++ part_of anchor (sent acts) (slice_get units (done acts)) count complete ∷ []) closed opened
carries_step max_pdu max_sdu bn laid units anchor number acts parts closed None count complete fits event least below laying_is sending (unit, turn, not_stale, segment) =
    start_step max_pdu max_sdu bn laid units anchor number acts parts closed count complete unit sending turn.due (fits (done acts) unit turn.due) segment
    (grind (arith, length, slice_get_within, done))
carries_step max_pdu max_sdu bn laid units anchor number acts parts closed (Some before) count complete fits event least below laying_is sending (unit, turn, not_stale, segment) =
    let begun : 1 ≤ sent acts = sending.open_is.begun in
    goes_on_step max_pdu max_sdu bn laid units anchor number acts parts closed before count complete unit sending turn.due (fits (done acts) unit turn.due)
    (three (sent acts) (length unit.octets) (room max_pdu acts) begun (omega arith) turn.room) segment
