-- The units of an event by their numbers, and what a close hands of them.
use Rattle.scenario_laws.proofs.Known.{ℕ, zero, suc, ◌≡◌, ◌<◌, ◌≤◌, ◌+◌, ◌-◌, ◌==◌, min, cond, Bool, false, List, [], ◌∷◌, ◌++◌, length, map, Some, refl, sym, ◌∙◌, ap, subst, arith, inl, inr, slice_get, AllZip, AllByRecursion, range_with_len, cases_eq, eq-eqb, ne_eqb, none-some, slice_get_within, BigInfo, Bounds, per_event_of, horizon_of, Handed, valid, lost, opened, before_event, lay, lays, begun, handed, unit_at, IsStruck, Place, Struck, air_at, closed_slots, begun_within, lays_accepted, all_zip_append, place_of, slots_of, Airs, Setup, give, events, given, laid_with, next_of, prefix_accepted, lays_events, BigSync, bis_of, stay_on, stream_calls, Step, steps_of_source, MeetAirs, sink_calls, injected_since, is_tuned, IsGiven, time_in, valid_in, whole_stay, StreamCall, unframed_accept as accept, unframed_accepted as accepted, laid_events, unframed_units_of as units_of, window_time_of as time_of, SourceCall, event as perform, source_stream, Below, Legal, Settled, bounds_in, lawful, settled, Within, IsOn, OnSource, TunedTo, on_source, Own, all_own, Climb, climb_from, climb_on, slot_time_is, StayCall, AllZip-long}
use Rattle.scenario_laws.proofs.FromSources.{sends_own, from_source}

-- ---- the units of the slots of a stream, by their numbers

-- the number of the first unit of an event, and the number that follows the last
abbrev pub first_in : BigInfo → List StreamCall → ℕ → ℕ
first_in info calls e = begun info (before_event calls e)

abbrev pub past_in : BigInfo → List StreamCall → ℕ → ℕ
past_in info calls e = min (length (accepted (before_event calls e))) (begun info (before_event calls e) + per_event_of info)

past_begun : (info : BigInfo) (calls : List StreamCall) (e : ℕ) → e < laid_events calls → past_in info calls e ≤ begun info calls
past_begun info [] e below = absurd (omega (arith, below))
past_begun info (accept octets ∷ calls) e below = past_begun info calls e below
past_begun info (lay ∷ calls) e below = elim (cases_eq (laid_events calls) e) [
  | inl same ↦ rw (eq-eqb (laid_events calls) e same) (omega arith)
  | inr other ↦
      let before : past_in info calls e ≤ begun info calls = past_begun info calls e (omega (arith, below, other)) in
      rw (ne_eqb (laid_events calls) e other) (omega (arith, before, begun_within info calls))
]

-- a later event begins behind the units of an earlier one
events_apart : (info : BigInfo) (calls : List StreamCall) (e later : ℕ) → e < later → later < laid_events calls → past_in info calls e ≤ first_in info calls later
events_apart info [] e later order below = absurd (omega (arith, below))
events_apart info (accept octets ∷ calls) e later order below = events_apart info calls e later order below
events_apart info (lay ∷ calls) e later order below = elim (cases_eq (laid_events calls) later) [
  | inl same ↦ grind (arith, eq-eqb, ne_eqb, past_begun)
  | inr other ↦
      rw (ne_eqb (laid_events calls) later other, ne_eqb (laid_events calls) e (λ is. omega (arith, is, below, other, order)))
      (events_apart info calls e later order (omega (arith, below, other)))
]

get_more : {A : Type 0} (xs ys : List A) (i : ℕ) (x : A) → slice_get xs i ≡ Some x → slice_get (xs ++ ys) i ≡ Some x
get_more (y ∷ xs) ys (suc i) x is = get_more xs ys i x is
get_more xs ys i x is = search (none-some)

accepted_are : (info : BigInfo) (bis : ℕ) (calls : List SourceCall) → accepted (source_stream info bis calls) ≡ given bis calls
accepted_are info bis [] = refl
accepted_are info bis (give stream time octets ∷ calls) = elim (cases_eq stream bis) [
  | inl same ↦ rw (eq-eqb stream bis same) (ap (λ units. units ++ octets ∷ []) (accepted_are info bis calls))
  | inr other ↦ rw (ne_eqb stream bis other) (accepted_are info bis calls)
]
accepted_are info bis (perform ∷ calls) = lays_accepted (source_stream info bis calls) (laid_with info calls) ∙ accepted_are info bis calls

some_laid : (none : Bool) (h : ℕ) → 1 ≤ cond none (h + 1) 1
some_laid none h = grind arith

-- each event that was performed was laid
pub laid_least : (info : BigInfo) (bis : ℕ) (calls : List SourceCall) → events calls ≤ laid_events (source_stream info bis calls)
laid_least info bis [] = omega arith
laid_least info bis (give stream time octets ∷ calls) = elim (cases_eq stream bis) [
  | inl same ↦ rw (eq-eqb stream bis same) (laid_least info bis calls)
  | inr other ↦ rw (ne_eqb stream bis other) (laid_least info bis calls)
]
laid_least info bis (perform ∷ calls) =
    let count : laid_events (lays (laid_with info calls) (source_stream info bis calls)) ≡ laid_with info calls + laid_events (source_stream info bis calls) =
    lays_events (source_stream info bis calls) (laid_with info calls) in
    omega (arith, count, some_laid (events calls == 0) (horizon_of info), laid_least info bis calls)

-- ---- units in source order, all of events before this one

pub record Ordered (setup : Setup) (whole : List SourceCall) (bis next : ℕ) (units : List Handed) : Type 0 where
  pub numbers : List ℕ
  pub high : ℕ
  pub climb : Climb 0 numbers high
  pub ahead : (e : ℕ) → next ≤ e → e - setup.first < laid_events (source_stream setup.info bis whole) → high ≤ first_in setup.info (source_stream setup.info bis whole) (e - setup.first)
  pub given : AllZip (IsGiven setup whole bis) numbers units

pub ordered_none : (setup : Setup) (whole : List SourceCall) (bis next : ℕ) → Ordered setup whole bis next []
ordered_none setup whole bis next = record { numbers = []; high = 0; climb = omega arith; ahead = λ e past laid. omega arith; given = tt }

pub ordered_later : (setup : Setup) (whole : List SourceCall) (bis next later : ℕ) (units : List Handed) → next ≤ later → Ordered setup whole bis next units → Ordered setup whole bis later units
ordered_later setup whole bis next later units more order = search arith

-- the valid units of one event
pub record Batch (setup : Setup) (whole : List SourceCall) (bis low high : ℕ) (units : List Handed) : Type 0 where
  pub numbers : List ℕ
  pub climb : Climb low numbers high
  pub given : AllZip (IsGiven setup whole bis) numbers units

-- a valid entry of a slot has the slot's unit, and its time
abbrev pub IsSlots : Setup → List SourceCall → ℕ → ℕ → ℕ → Handed → Type 0
IsSlots setup whole bis event slot unit = (stream : ℕ) → (time : ℕ) → (octets : List ℕ) → unit ≡ valid stream time octets
    → (stream ≡ bis) × (time ≡ time_of (whole_stay setup bis) event slot) × (slots_of setup whole bis event slot ≡ Some octets)

batch_one : (setup : Setup) (whole : List SourceCall) (bis event slot low : ℕ) (unit : Handed) (rest : List Handed)
    → setup.first ≤ event → event < next_of setup whole → slot < per_event_of setup.info → low ≤ first_in setup.info (source_stream setup.info bis whole) (event - setup.first) + slot
    → low ≤ past_in setup.info (source_stream setup.info bis whole) (event - setup.first) → IsSlots setup whole bis event slot unit
    → ((least : ℕ) → least ≤ first_in setup.info (source_stream setup.info bis whole) (event - setup.first) + (slot + 1)
    → least ≤ past_in setup.info (source_stream setup.info bis whole) (event - setup.first)
    → Batch setup whole bis least (past_in setup.info (source_stream setup.info bis whole) (event - setup.first)) (valid_in rest))
    → Batch setup whole bis low (past_in setup.info (source_stream setup.info bis whole) (event - setup.first)) (valid_in (unit ∷ rest))
batch_one setup whole bis event slot low (lost stream time) rest from_first performed_then inside least most is more = more low (omega (arith, least)) most
batch_one setup whole bis event slot low (valid stream time octets) rest from_first performed_then inside least most is more =
    let here = is stream time octets refl in
    let count : first_in setup.info (source_stream setup.info bis whole) (event - setup.first) + slot < length (accepted (before_event (source_stream setup.info bis whole) (event - setup.first))) = grind (arith, slice_get_within, before_event) in
    let next = more (first_in setup.info (source_stream setup.info bis whole) (event - setup.first) + slot + 1) (omega arith) (omega (arith, count, inside)) in
    let prefix_of_all = prefix_accepted (source_stream setup.info bis whole) (event - setup.first) in
    let found : slice_get (given bis whole) (place_of setup whole bis event slot) ≡ Some octets = grind (arith, slice_get, place_of, accepted_are, get_more, before_event) in
    let one : IsGiven setup whole bis (place_of setup whole bis event slot) (valid stream time octets) = grind (arith, valid) in
    record { numbers = place_of setup whole bis event slot ∷ next.numbers; climb = (least, next.climb); given = (one, next.given) }

batch : (setup : Setup) (whole : List SourceCall) (bis event : ℕ) (g : ℕ → Handed) (start count low : ℕ) → setup.first ≤ event → event < next_of setup whole → start + count ≤ per_event_of setup.info
    → low ≤ first_in setup.info (source_stream setup.info bis whole) (event - setup.first) + start
    → low ≤ past_in setup.info (source_stream setup.info bis whole) (event - setup.first)
    → ((slot : ℕ) → start ≤ slot → slot < start + count → IsSlots setup whole bis event slot (g slot))
    → Batch setup whole bis low (past_in setup.info (source_stream setup.info bis whole) (event - setup.first)) (valid_in (map g (range_with_len start count)))
batch setup whole bis event g start zero low from_first performed_then inside least most is = record { numbers = []; climb = most; given = tt }
batch setup whole bis event g start (suc count) low from_first performed_then inside least most is =
    batch_one setup whole bis event start low (g start) (map g (range_with_len (start + 1) count)) from_first performed_then (omega (arith, inside)) least most (is start (omega arith) (omega arith))
    (λ from from_least from_most. batch setup whole bis event g (start + 1) count from from_first performed_then (omega (arith, inside)) from_least from_most
    (λ slot past below. is slot (omega (arith, past)) (omega (arith, below))))

-- one event more
pub ordered_more : (setup : Setup) (whole : List SourceCall) (bis event later : ℕ) (units more : List Handed) → setup.first ≤ event → event < later
    → event - setup.first < laid_events (source_stream setup.info bis whole) → Ordered setup whole bis event units
    → Batch setup whole bis (first_in setup.info (source_stream setup.info bis whole) (event - setup.first)) (past_in setup.info (source_stream setup.info bis whole) (event - setup.first)) more
    → Ordered setup whole bis later (units ++ more)
ordered_more setup whole bis event later units more least past laid order last = record {
  numbers = order.numbers ++ last.numbers;
  high = past_in setup.info (source_stream setup.info bis whole) (event - setup.first);
  climb = grind (arith, climb_on, climb_from);
  ahead = λ e behind within. events_apart setup.info (source_stream setup.info bis whole) (event - setup.first) (e - setup.first) (omega (arith, behind, past, least)) within;
  given = all_zip_append (IsGiven setup whole bis) order.numbers last.numbers units more order.given last.given;
}

-- ---- the units of a close are struck

zip_rest : {A B : Type 0} (R : A → B → Type 0) (xs xs' : List A) (ys ys' : List B) → length ys ≡ length xs → AllZip R (xs ++ xs') (ys ++ ys') → AllZip R xs' ys'
zip_rest R [] xs' [] ys' long all = all
zip_rest R [] xs' (y ∷ ys) ys' long all = absurd (omega (arith, long))
zip_rest R (x ∷ xs) xs' [] ys' long all = absurd (omega (arith, long))
zip_rest R (x ∷ xs) xs' (y ∷ ys) ys' long all = zip_rest R xs xs' ys ys' (omega (arith, long)) all.1

zip_at : {A B : Type 0} (R : A → B → Type 0) (f : ℕ → A) (g : ℕ → B) (start count : ℕ) → AllZip R (map f (range_with_len start count)) (map g (range_with_len start count))
    → (i : ℕ) → start ≤ i → i < start + count → R (f i) (g i)
zip_at R f g start zero all i least below = absurd (omega (arith, least, below))
zip_at R f g start (suc count) all i least below = elim (cases_eq start i) [
  | inl same ↦ subst (λ j. R (f j) (g j)) same all.0
  | inr other ↦ zip_at R f g (start + 1) count all.1 i (omega (arith, least, other)) (omega (arith, below))
]

struck_slots : (setup : Setup) (whole : List SourceCall) (tuning : BigSync) (bis event slot : ℕ) (calls : List StayCall) (unit : Handed) → TunedTo setup tuning → tuning.first ≤ event
    → IsStruck (stay_on tuning bis) (slots_of setup whole bis) calls event slot unit → IsSlots setup whole bis event slot unit
struck_slots setup whole tuning bis event slot calls (valid b t o) on least struck stream time octets is = (
  sym (ap bis_of is) ∙ struck.0,
  sym (ap time_in is) ∙ struck.1 ∙ slot_time_is setup tuning bis event slot on least,
  cc (struck.2.has),
)
struck_slots setup whole tuning bis event slot calls (lost b t) on least struck stream time octets is = cc

last_batch : (setup : Setup) (whole : List SourceCall) (tuning : BigSync) (bis event : ℕ) (sc : List StayCall) → TunedTo setup tuning
    → opened (stay_on tuning bis) sc ≡ event → tuning.first ≤ event → setup.first ≤ event → event < next_of setup whole
    → Struck (stay_on tuning bis) (slots_of setup whole bis) sc (handed (stay_on tuning bis) sc)
    → Struck (stay_on tuning bis) (slots_of setup whole bis) (StayCall.close ∷ sc) (handed (stay_on tuning bis) (StayCall.close ∷ sc))
    → Batch setup whole bis (first_in setup.info (source_stream setup.info bis whole) (event - setup.first)) (past_in setup.info (source_stream setup.info bis whole) (event - setup.first))
    (valid_in (units_of (stay_on tuning bis) sc event))
last_batch setup whole tuning bis event sc on is past from_first performed_then before now =
    let rest : AllZip (λ (at : Place) entry. IsStruck (stay_on tuning bis) (slots_of setup whole bis) (StayCall.close ∷ sc) at.event at.slot entry)
    (map (λ slot. record { event = opened (stay_on tuning bis) sc; slot = slot }) (range_with_len 0 (per_event_of tuning.info)))
    (map (unit_at (stay_on tuning bis) sc (opened (stay_on tuning bis) sc)) (range_with_len 0 (per_event_of tuning.info))) =
    zip_rest (λ (at : Place) entry. IsStruck (stay_on tuning bis) (slots_of setup whole bis) (StayCall.close ∷ sc) at.event at.slot entry)
    (closed_slots (stay_on tuning bis) sc) (map (λ slot. record { event = opened (stay_on tuning bis) sc; slot = slot }) (range_with_len 0 (per_event_of tuning.info)))
    (handed (stay_on tuning bis) sc) (map (unit_at (stay_on tuning bis) sc (opened (stay_on tuning bis) sc)) (range_with_len 0 (per_event_of tuning.info)))
    (AllZip-long _ _ _ before) now in
    let count : per_event_of tuning.info ≡ per_event_of setup.info = ap per_event_of on.info in
    let begun_least : begun setup.info (before_event (source_stream setup.info bis whole) (event - setup.first)) ≤ length
    (accepted (before_event (source_stream setup.info bis whole) (event - setup.first))) =
    begun_within setup.info (before_event (source_stream setup.info bis whole) (event - setup.first)) in
    batch setup whole bis event (unit_at (stay_on tuning bis) sc event) 0 (per_event_of tuning.info)
    (first_in setup.info (source_stream setup.info bis whole) (event - setup.first)) from_first performed_then
    (omega (arith, count)) (omega arith) (omega (arith, begun_least))
    (λ slot least below. struck_slots setup whole tuning bis event slot (StayCall.close ∷ sc) (unit_at (stay_on tuning bis) sc event slot) on past
    (subst (λ e. IsStruck (stay_on tuning bis) (slots_of setup whole bis) (StayCall.close ∷ sc) e slot (unit_at (stay_on tuning bis) sc e slot)) is
    (zip_at (λ (at : Place) entry. IsStruck (stay_on tuning bis) (slots_of setup whole bis) (StayCall.close ∷ sc) at.event at.slot entry)
    (λ slot. record { event = opened (stay_on tuning bis) sc; slot = slot }) (unit_at (stay_on tuning bis) sc (opened (stay_on tuning bis) sc)) 0 (per_event_of tuning.info) rest slot least below)))

-- what the stay's next close hands on the stream
pub close_batch : Below → (airs : Airs) → MeetAirs airs → (boxes s n bis : ℕ) (setup : Setup) (whole : List SourceCall) (tuning : BigSync) (made : List Step) → Legal airs boxes made
    → Within setup whole (steps_of_source s made) → TunedTo setup tuning → 1 ≤ bis → IsOn airs s n made tuning → setup.info.framing ≡ 0 → injected_since (is_tuned n) n made ≡ false
    → ((event : ℕ) → (slot : ℕ) → (unit : List ℕ) → slots_of setup whole bis event slot ≡ Some unit → length unit ≤ setup.info.max_sdu)
    → (event : ℕ) → opened (stay_on tuning bis) (stream_calls (stay_on tuning bis) (sink_calls airs n made)) ≡ event → tuning.first ≤ event → event < next_of setup whole
    → Batch setup whole bis (first_in setup.info (source_stream setup.info bis whole) (event - setup.first)) (past_in setup.info (source_stream setup.info bis whole) (event - setup.first))
    (valid_in (units_of (stay_on tuning bis) (stream_calls (stay_on tuning bis) (sink_calls airs n made)) event))
close_batch below airs meets boxes s n bis setup whole tuning made legal within on least is plain_source clean fits event opened_at past performed_then =
    let own : List Step = steps_of_source s made in
    let settles : Settled own = settled airs own (lawful airs boxes s made legal) in
    let there : OnSource own tuning = on_source below.announcing airs boxes s n made tuning legal is in
    let bounds : Bounds tuning.info = subst Bounds (sym there.tuned.info) (bounds_in own settles there.started) in
    let plain : tuning.info.framing ≡ 0 = ap (λ (i : BigInfo). i.framing) on.info ∙ plain_source in
    let calls : List StayCall = stream_calls (stay_on tuning bis) (sink_calls airs n made) in
    let short : (e : ℕ) → (slot : ℕ) → (unit : List ℕ) → slots_of setup whole bis e slot ≡ Some unit → length unit ≤ tuning.info.max_sdu =
    λ e slot unit has. subst (λ (i : BigInfo). length unit ≤ i.max_sdu) (sym on.info) (fits e slot unit has) in
    let all : AllByRecursion (Own (air_at (stay_on tuning bis) (slots_of setup whole bis))) calls = search (all_own, air_at, stay_on, slots_of, sends_own) in
    let before : Struck (stay_on tuning bis) (slots_of setup whole bis) calls (handed (stay_on tuning bis) calls) =
    below.struck (stay_on tuning bis) (slots_of setup whole bis) calls bounds plain short (from_source (stay_on tuning bis) (slots_of setup whole bis) calls all) in
    let now : Struck (stay_on tuning bis) (slots_of setup whole bis) (StayCall.close ∷ calls) (handed (stay_on tuning bis) (StayCall.close ∷ calls)) =
    below.struck (stay_on tuning bis) (slots_of setup whole bis) (StayCall.close ∷ calls) bounds plain short
    (from_source (stay_on tuning bis) (slots_of setup whole bis) (StayCall.close ∷ calls) (tt, all)) in
    last_batch setup whole tuning bis event calls on opened_at past (omega (arith, past, on.first)) performed_then before now
