-- What is owed and held over a ring that is read from the open event's place on.
use Rattle.isoal_unframed.proofs.Prelude.{ℕ, ◌≡◌, ◌+◌, ◌-◌, ◌*◌, ◌%◌, ◌<◌, ◌≤◌, Bool, not, cond, List, ◌++◌, length, map, take, drop, set, replicate, get_or, vec_len, Option, None, is_some, sym, ap, ◌∙◌, inl, inr, arith, range_with_len, sum, cond-true, cond-false, lt-ltb, le-ltb, true≢false, false≢true, add-mul, drop-replicate, take-replicate, replicate-append-replicate, sum_by-map-range_with_len_more, BigInfo, horizon_of, per_event_of, per_unit_of, Content, Stay, window_of, placing, kept_of, turned, place_of, place_at, owed_of, held_in_event, slot_in, Ring}
use Rattle.isoal_base.specs.declared.heard.Heard.TheVariants.{Repeat, Kept}
use Rattle.isoal_base.proofs.Citable.{map_same}
use Rattle.isoal_unframed.specs.State.Opening.{IsOpen}
use Rattle.isoal_unframed.specs.declared.stream.OpenEvent.{OpenEvent}
use Rattle.isoal_unframed.proofs.Kept.{length-kept}
use Rattle.isoal_unframed.proofs.Places.{slot_fits, event_fits}
use Rattle.isoal_unframed.proofs.Turns.{take-turned, get-turned, set-turned, next_turn, turned_next, turned_round}

pub slot-turned : (stay : Stay) (place slot : ℕ) (kept : List (Option Content)) → slot < per_event_of stay.info
    → per_event_of stay.info * per_unit_of stay.info ≡ stay.info.bn → place + stay.info.bn ≤ length kept
    → slot_in stay (drop place kept) slot ≡ slot_in stay (turned place kept) slot
slot-turned stay place slot kept below all within = grind (arith, slot_fits, take-turned)

pub owed-turned : (stay : Stay) (event place : ℕ) (kept : List (Option Content))
    → per_event_of stay.info * per_unit_of stay.info ≡ stay.info.bn → place + stay.info.bn ≤ length kept
    → owed_of stay event (drop place kept) ≡ owed_of stay event (turned place kept)
owed-turned stay event place kept all within = grind (arith, map_same, slot-turned)

pub held-turned : (stay : Stay) (place : ℕ) (kept : List (Option Content)) → per_event_of stay.info * per_unit_of stay.info ≡ stay.info.bn
    → place + stay.info.bn ≤ length kept → held_in_event stay (drop place kept) ≡ held_in_event stay (turned place kept)
held-turned stay place kept all within = grind (arith, map_same, slot-turned)

pub sum_more : (f : ℕ → ℕ) (n : ℕ) → sum (map f (range_with_len 0 (n + 1))) ≡ sum (map f (range_with_len 0 n)) + f n
sum_more f n = sum_by-map-range_with_len_more (λ x. x) f 0 n n (omega arith)

-- a test of `keep`: a number inside the window
pub is_inside : (info : BigInfo) (event number : ℕ) (kept : List (Option Content)) → event * info.bn ≤ number
    → number < event * info.bn + window_of info
    → placing info event kept number ≡ cond (is_some (get_or kept (number - event * info.bn) None)) Repeat Kept
is_inside info event number kept least below = grind (arith, cond-false, le-ltb, cond-true, lt-ltb)

pub place_within : (info : BigInfo) (event : ℕ) → place_of info event + info.bn ≤ window_of info
place_within info event = event_fits event (horizon_of info) info.bn

-- what `keep` answers where the number is in the window
pub is_placed : (info : BigInfo) (current : OpenEvent) (number place window : ℕ) (ring : Ring) (empty full : Bool)
    → IsOpen info current → vec_len ring.cells ≡ window_of info → window ≡ window_of info → current.number ≤ number → number - current.number < window
    → place ≡ place_at info current.event (number - current.number) → empty ≡ not (is_some (get_or (kept_of ring) place None)) → empty ≡ not full
    → cond full Repeat Kept ≡ placing info current.event (turned (place_of info current.event) (kept_of ring)) number
is_placed info current number place window ring empty full is room all least below is_place is_empty is_full =
    let size : length (kept_of ring) ≡ window_of info = length-kept ring.max_pdu ring.cells.items ring.block.items ∙ sym ring.cells.ok.0 ∙ room in
    grind (arith, place_within, false≢true, true≢false, is_inside, get-turned)

pub is_put : (info : BigInfo) (current : OpenEvent) (number place : ℕ) (kept new : List (Option Content)) (entry : Option Content) → IsOpen info current
    → length kept ≡ window_of info → current.number ≤ number → number - current.number < window_of info
    → place ≡ place_at info current.event (number - current.number) → new ≡ set kept place entry
    → turned (place_of info current.event) new ≡ set (turned (place_of info current.event) kept) (number - current.event * info.bn) entry
is_put info current number place kept new entry is size least below is_place is_new = grind (arith, place_within, set-turned)

-- where the next event begins, before the end of the ring and at it
pub next_place : (info : BigInfo) (event behind : ℕ) → behind ≡ place_of info event + info.bn → behind < window_of info
    → behind ≡ place_of info (event + 1)
next_place info event behind is below =
    let next : (event % (horizon_of info + 1) + 1) * info.bn ≡ place_of info event + info.bn =
    add-mul (event % (horizon_of info + 1)) 1 info.bn ∙ omega arith in
    elim (next_turn event (horizon_of info + 1) (omega arith)) [
      | inl more ↦ is ∙ sym next ∙ ap (λ t. t * info.bn) (sym more.1)
      | inr round ↦ grind arith
    ]

pub first_place : (info : BigInfo) (event behind : ℕ) → behind ≡ place_of info event + info.bn → 0 < info.bn → window_of info ≤ behind
    → 0 ≡ place_of info (event + 1)
first_place info event behind is some past =
    let next : (event % (horizon_of info + 1) + 1) * info.bn ≡ place_of info event + info.bn =
    add-mul (event % (horizon_of info + 1)) 1 info.bn ∙ omega arith in
    elim (next_turn event (horizon_of info + 1) (omega arith)) [
      | inl more ↦ grind (arith, place_within)
      | inr round ↦ sym (ap (λ t. t * info.bn) round.1 ∙ omega arith)
    ]

pub turned_replicate : (place n : ℕ) → place ≤ n → turned place (replicate n None) ≡ replicate n None
turned_replicate place n within = grind (arith, drop-replicate, take-replicate, replicate-append-replicate)

-- the ring after a close
pub closed_kept : (info : BigInfo) (event : ℕ) (was handed now : List (Option Content)) → length was ≡ window_of info
    → take (place_of info event) handed ≡ take (place_of info event) was
    → drop (place_of info event + info.bn) handed ≡ drop (place_of info event + info.bn) was
    → now ≡ take (place_of info event) handed ++ (replicate info.bn None ++ drop (place_of info event + info.bn) handed)
    → turned (place_of info (event + 1)) now ≡ drop info.bn (turned (place_of info event) was) ++ replicate info.bn None
closed_kept info event was handed now size prefix behind is =
    let within : place_of info event + info.bn ≤ window_of info = place_within info event in
    let same : now ≡ take (place_of info event) was ++ (replicate info.bn None ++ drop (place_of info event + info.bn) was) = grind arith in
    let next : (event % (horizon_of info + 1) + 1) * info.bn ≡ place_of info event + info.bn =
    add-mul (event % (horizon_of info + 1)) 1 info.bn ∙ omega arith in
    elim (next_turn event (horizon_of info + 1) (omega arith)) [
      | inl more ↦ grind (arith, turned_next)
      | inr round ↦ grind (arith, turned_round)
    ]

-- the places of an open event are within the ring
pub place_at_most : (info : BigInfo) (current : OpenEvent) → IsOpen info current → current.place + info.bn ≤ window_of info
place_at_most info current is = grind (arith, place_within)
