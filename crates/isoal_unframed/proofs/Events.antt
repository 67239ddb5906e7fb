-- The events of an air by their payload numbers.
use Rattle.isoal_unframed.proofs.Prelude.{ℕ, ◌≡◌, ◌<◌, ◌≤◌, ◌+◌, ◌*◌, ◌/◌, ◌%◌, zero, suc, List, [], ◌∷◌, length, drop, map, Some, None, arith, ◌∙◌, ap, sym, refl, inl, inr, cases_eq, eq-eqb, ne_eqb, get_or-map-range_with_len, length-map-range_with_len, div-add-mod', div-mul-add, mod-mul-add, mod_below, mul-add-lt, slice_get-get_or, range_with_len, slice_get, per_event_of, per_unit_of, BigInfo, pdu, Laid, event_at, pdu_at, laid_u, next_event, unframed_air, Call, accept, lay, accepted, begun, events, Sender, StandsFor, event_pdus, laid, option_and_then}
use Rattle.isoal_unframed.proofs.Rows.{map_same, rows}
use Rattle.isoal_unframed.specs.Air.{unit_at}

slice_get_drop : {X : Type 0} (xs : List X) (n i : ℕ) → slice_get (drop n xs) i ≡ slice_get xs (n + i)
slice_get_drop xs zero i = let same : 0 + i ≡ i = omega arith in rw same refl
slice_get_drop [] (suc n) i = refl
slice_get_drop (x ∷ xs) (suc n) i = let next : suc n + i ≡ suc (n + i) = omega arith in rw next (slice_get_drop xs n i)

-- the units of an event that is laid are those that wait
unit_at_next : (info : BigInfo) (calls : List Call) (waiting : List (List ℕ)) (slot : ℕ) → waiting ≡ drop (begun info calls) (accepted calls)
    → unit_at info (lay ∷ calls) (events calls) slot ≡ slice_get waiting slot
unit_at_next info calls waiting slot waits = grind (arith, eq-eqb, slice_get_drop)

pub next_event_is : (info : BigInfo) (calls : List Call) (sender : Sender) → info.bn ≡ per_event_of info * per_unit_of info → StandsFor info calls sender
    → next_event info calls ≡ record { pdus = event_pdus info sender.waiting; stale = [] }
next_event_is info calls sender whole stands =
    let m = per_unit_of info in
    let f : ℕ → ℕ → List ℕ = λ slot r. pdu (laid info.max_pdu (slice_get sender.waiting slot) r) in
    let e = events calls in
    let here : (i : ℕ) → i < info.bn → laid_u info (lay ∷ calls) (e * info.bn + i) ≡ f ((0 + i) / m) ((0 + i) % m) = grind (arith, div-mul-add, mod-mul-add, unit_at_next) in
    let start : 0 * m ≡ 0 = omega arith in
    let numbers = map_same (laid_u info (lay ∷ calls)) (λ i. f (i / m) (i % m)) (e * info.bn) 0 info.bn here in
    let by_rows : event_pdus info sender.waiting ≡ map (λ i. f (i / m) (i % m)) (range_with_len 0 info.bn) = grind (arith, rows) in
    ap (λ (pdus : List (List ℕ)). record { pdus = pdus; stale = [] }) (numbers ∙ sym by_rows)

-- what was laid stays
pub laid_stays : (info : BigInfo) (call : Call) (calls : List Call) (number : ℕ) → number / info.bn < events calls → laid_u info (call ∷ calls) number ≡ laid_u info calls number
laid_stays info (accept octets) calls number below = refl
laid_stays info lay calls number below = rw (ne_eqb (events calls) (number / info.bn) (λ e. omega (arith, e))) refl

pub air_length : (info : BigInfo) (calls : List Call) → length (unframed_air info calls) ≡ events calls
air_length info [] = refl
air_length info (accept octets ∷ calls) = air_length info calls
air_length info (lay ∷ calls) = ap suc (air_length info calls)

abbrev event_laid : BigInfo → List Call → ℕ → Laid
event_laid info calls e = record { pdus = map (laid_u info calls) (range_with_len (e * info.bn) info.bn); stale = [] }

event_laid_stays : (info : BigInfo) (call : Call) (calls : List Call) (e : ℕ) → e < events calls → event_laid info (call ∷ calls) e ≡ event_laid info calls e
event_laid_stays info call calls e below = grind (arith, map_same, laid_stays, div-mul-add)

event_at_is : (info : BigInfo) (calls : List Call) (e : ℕ) → e < events calls → event_at (unframed_air info calls) e ≡ Some (event_laid info calls e)
event_at_is info [] e below = absurd (omega (arith, below))
event_at_is info (accept octets ∷ calls) e below = event_at_is info calls e below ∙ ap (λ l. Some l) (sym (event_laid_stays info (accept octets) calls e below))
event_at_is info (lay ∷ calls) e below = elim (cases_eq (events calls) e) [
  | inl same ↦ rw (air_length info calls, eq-eqb (events calls) e same) (ap (λ n. Some (event_laid info (lay ∷ calls) n)) same)
  | inr other ↦
      let earlier : e < events calls = omega (arith, below, other) in
      rw (air_length info calls, ne_eqb (events calls) e other) (event_at_is info calls e earlier ∙ ap (λ l. Some l) (sym (event_laid_stays info lay calls e earlier)))
]

event_at_none : (info : BigInfo) (calls : List Call) (e : ℕ) → events calls ≤ e → event_at (unframed_air info calls) e ≡ None
event_at_none info [] e past = refl
event_at_none info (accept octets ∷ calls) e past = event_at_none info calls e past
event_at_none info (lay ∷ calls) e past =
    rw (air_length info calls, ne_eqb (events calls) e (λ s. omega (arith, s, past))) (event_at_none info calls e (omega (arith, past)))

pub number_laid : (info : BigInfo) (calls : List Call) (number : ℕ) → 1 ≤ info.bn → number / info.bn < events calls
    → pdu_at info.bn (unframed_air info calls) number ≡ Some (laid_u info calls number)
number_laid info calls number some below =
    let e = number / info.bn in
    let inside : number % info.bn < info.bn = mod_below number info.bn some in
    let whole : e * info.bn + number % info.bn ≡ number = div-add-mod' number info.bn in
    let count = length-map-range_with_len (laid_u info calls) (e * info.bn) info.bn in
    ap (option_and_then (λ event. slice_get event.pdus (number % info.bn))) (event_at_is info calls e below)
    ∙ slice_get-get_or (map (laid_u info calls) (range_with_len (e * info.bn) info.bn)) (number % info.bn) [] (omega (arith, count, inside))
    ∙ ap (λ p. Some p) (get_or-map-range_with_len (laid_u info calls) (e * info.bn) info.bn (number % info.bn) number [] inside whole)

pub number_not_laid : (info : BigInfo) (calls : List Call) (number : ℕ) → events calls ≤ number / info.bn → pdu_at info.bn (unframed_air info calls) number ≡ None
number_not_laid info calls number past = ap (option_and_then (λ event. slice_get event.pdus (number % info.bn))) (event_at_none info calls (number / info.bn) past)

pub event_count : (info : BigInfo) (waiting : List (List ℕ)) → info.bn ≡ per_event_of info * per_unit_of info → length (event_pdus info waiting) ≡ info.bn
event_count info waiting whole =
    let m = per_unit_of info in
    let f : ℕ → ℕ → List ℕ = λ slot r. pdu (laid info.max_pdu (slice_get waiting slot) r) in
    ap length (rows f m 0 (per_event_of info)) ∙ length-map-range_with_len (λ i. f (i / m) (i % m)) (0 * m) (per_event_of info * m) ∙ sym whole

pub laid_at_place : (info : BigInfo) (calls : List Call) (event slot r : ℕ) → info.bn ≡ per_event_of info * per_unit_of info
    → slot < per_event_of info → r < per_unit_of info
    → laid_u info calls (event * info.bn + (slot * per_unit_of info + r)) ≡ pdu (laid info.max_pdu (unit_at info calls event slot) r)
laid_at_place info calls event slot r whole slot_below r_below =
    let m = per_unit_of info in
    let inside : slot * m + r < info.bn = omega (arith, whole, mul-add-lt slot m r (per_event_of info) slot_below r_below) in
    rw (div-mul-add event info.bn (slot * m + r) inside, mod-mul-add event info.bn (slot * m + r) inside, div-mul-add slot m r r_below, mod-mul-add slot m r r_below) refl
