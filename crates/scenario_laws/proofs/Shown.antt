-- What a sink hands up on a stream of a source is one entry for each slot of each event of it that the sink closed.
use Rattle.scenario_laws.proofs.Known.Sources.{ℕ, zero, suc, ◌≡◌, ◌<◌, ◌≤◌, ◌+◌, ◌-◌, ◌*◌, cond, leb, eqb, Bool, true, false, List, [], ◌∷◌, ◌++◌, map, Option, None, Some, refl, sym, ◌∙◌, ap, subst, arith, inl, inr, AllZip, Contains, range_with_len, add-mul, cases_Bool, cond-true, append-nil, append_cancel_left, filter-append, BigInfo, per_event_of, iso_us_of, Handed, anchor_of, unframed_reference_of, render_of, Stay, opened, handed, numbers_of, unit_at, unit_of, all_zip_append, Setup, Call, tick, BigSync, bis_of, handed_at, of_stream, is_in, stay_on, stream_calls, streams_of, is_member, member_is, Step, steps_of_source, setup_of, source_calls, Airs, is_of, sink_calls, source_of, SinkUnit, handed_by, Closed, closed_by, closed_in, closed_since, IsOfSlot, given_since_made, handed_since, is_given, is_made, of_sink, shown_since, slots_closed, time_in, whole_stay, unframed_heard_in as heard_in, unframed_units_of as units_of, window_handed_of as handed_of, window_time_of as time_of, SourceCall, place, ticked_by_sink as ticked_by, ticked_since, closes, closed_if, Legal, true_not_false, Within, within_before, within_itself, shown_by, shown_if, step_shown, is_its, StayCall, handed_append}
use Rattle.std.proofs.lemmas.Grind.{flat_map-append}
use Rattle.scenario_laws.proofs.Announced.{Announcing}
use Rattle.scenario_laws.proofs.Below.{Below}
use Rattle.scenario_laws.proofs.Stays.{OnSource, TunedTo, on_since_made, on_source, rest_not}

-- ---- the units of one close on one stream

close_hands : (stay : Stay) (over : Bool) (calls : List StayCall) → handed stay (cond over (StayCall.close ∷ calls) calls) ≡ handed stay calls ++ cond over (units_of stay calls (opened stay calls)) []
close_hands stay over calls = grind (arith, append-nil)

pub tick_hands : Below → (event : ℕ) (calls : List Call) (tuning : BigSync) (bis : ℕ) → tuning.info.framing ≡ 0 → place calls ≡ Some tuning → Contains (streams_of tuning.which) bis
    → of_stream bis (handed_at calls event) ≡ cond (leb (opened (stay_on tuning bis) (stream_calls (stay_on tuning bis) calls)) event)
    (units_of (stay_on tuning bis) (stream_calls (stay_on tuning bis) calls) (opened (stay_on tuning bis) (stream_calls (stay_on tuning bis) calls))) []
tick_hands below event calls tuning bis plain is taken =
    let stay = stay_on tuning bis in
    let sc = stream_calls stay calls in
    let all : of_stream bis (ticked_since calls) ++ of_stream bis (handed_at calls event) ≡ handed stay sc ++ cond (leb (opened stay sc) event) (units_of stay sc (opened stay sc)) [] =
    sym (filter-append (λ entry. eqb (bis_of entry) bis) (ticked_since calls) (handed_at calls event))
    ∙ below.hands tuning (tick event ∷ calls) bis plain is taken ∙ close_hands stay (leb (opened stay sc) event) sc in
    append_cancel_left (handed stay sc) (of_stream bis (handed_at calls event)) _
    (ap (λ xs. xs ++ of_stream bis (handed_at calls event)) (sym (below.hands tuning calls bis plain is taken)) ∙ all)

pub tick_others : Below → (event : ℕ) (calls : List Call) (tuning : BigSync) (bis : ℕ) → place calls ≡ Some tuning → ¬ Contains (streams_of tuning.which) bis
    → of_stream bis (handed_at calls event) ≡ []
tick_others below event calls tuning bis is out =
    ap (λ xs. xs ++ of_stream bis (handed_at calls event)) (sym (below.others tuning calls bis is out))
    ∙ sym (filter-append (λ entry. eqb (bis_of entry) bis) (ticked_since calls) (handed_at calls event))
    ∙ below.others tuning (tick event ∷ calls) bis is out

-- what a stay renders by its anchor is rendered then by the source's
pub render_same : (reference : BigInfo → ℕ → ℕ) (setup : Setup) (tuning : BigSync) (event : ℕ) → TunedTo setup tuning → tuning.first ≤ event
    → render_of (reference tuning.info (anchor_of tuning.anchor tuning.first event (iso_us_of tuning.info))) tuning.delay
    ≡ render_of (reference setup.info (anchor_of setup.origin setup.first event (iso_us_of setup.info))) setup.delay
render_same reference setup tuning event on least =
    let both : event - setup.first ≡ (tuning.first - setup.first) + (event - tuning.first) = omega (arith, least, on.first) in
    let product : (event - setup.first) * iso_us_of setup.info ≡ (tuning.first - setup.first) * iso_us_of setup.info + (event - tuning.first) * iso_us_of setup.info =
    ap (λ d. d * iso_us_of setup.info) both ∙ add-mul (tuning.first - setup.first) (event - tuning.first) (iso_us_of setup.info) in
    let anchor : anchor_of tuning.anchor tuning.first event (iso_us_of setup.info) ≡ anchor_of setup.origin setup.first event (iso_us_of setup.info) =
    omega (arith, product, on.anchor) in
    ap (λ (i : BigInfo). render_of (reference i (anchor_of tuning.anchor tuning.first event (iso_us_of i))) tuning.delay) on.info
    ∙ ap (λ a. render_of (reference setup.info a) tuning.delay) anchor
    ∙ ap (render_of (reference setup.info (anchor_of setup.origin setup.first event (iso_us_of setup.info)))) on.delay

pub slot_time_is : (setup : Setup) (tuning : BigSync) (bis event slot : ℕ) → TunedTo setup tuning → tuning.first ≤ event
    → time_of (stay_on tuning bis) event slot ≡ time_of (whole_stay setup bis) event slot
slot_time_is setup tuning bis event slot on least = render_same (λ info anchor. unframed_reference_of info anchor slot) setup tuning event on least

pub zip_maps : {A B : Type 0} (R : A → B → Type 0) (f : ℕ → A) (g : ℕ → B) (start count : ℕ) → ((i : ℕ) → i < start + count → R (f i) (g i))
    → AllZip R (map f (range_with_len start count)) (map g (range_with_len start count))
zip_maps R f g start zero each = tt
zip_maps R f g start (suc count) each =
    (each start (omega arith), zip_maps R f g (start + 1) count (λ i below. each i (omega (arith, below))))

units_in_slots : (setup : Setup) (tuning : BigSync) (bis : ℕ) (calls : List StayCall) (event : ℕ) → TunedTo setup tuning → tuning.first ≤ event
    → AllZip (IsOfSlot setup bis) (map (λ slot. record { event = event; slot = slot }) (range_with_len 0 (per_event_of setup.info)))
    (map (unit_at (stay_on tuning bis) calls event) (range_with_len 0 (per_event_of setup.info)))
units_in_slots setup tuning bis calls event on least =
    zip_maps (IsOfSlot setup bis) (λ slot. record { event = event; slot = slot }) (unit_at (stay_on tuning bis) calls event) 0 (per_event_of setup.info)
    (λ slot below.
    let is : (bis_of (handed_of bis (time_of (stay_on tuning bis) event slot) (unit_of tuning.info.max_sdu (map (heard_in
    (stay_on tuning bis) calls) (numbers_of (stay_on tuning bis) event slot)))) ≡ bis) × (time_in (handed_of bis (time_of
    (stay_on tuning bis) event slot) (unit_of tuning.info.max_sdu (map (heard_in (stay_on tuning bis) calls) (numbers_of
    (stay_on tuning bis) event slot)))) ≡ (time_of (stay_on tuning bis) event slot)) = grind arith in
    (is.0, is.1 ∙ slot_time_is setup tuning bis event slot on least))

one_slots : (setup : Setup) (bis : ℕ) (closed : Closed) → is_in closed.which bis ≡ true
    → slots_closed setup bis (closed ∷ []) ≡ map (λ slot. record { event = closed.event; slot = slot }) (range_with_len 0 (per_event_of setup.info))
one_slots setup bis closed taken = search (append-nil, cond-true)

taken_zip : (setup : Setup) (tuning : BigSync) (bis : ℕ) (calls : List StayCall) (count : ℕ) → TunedTo setup tuning → is_in tuning.which bis ≡ true → (over : Bool)
    → AllZip (IsOfSlot setup bis) (slots_closed setup bis (cond over (record { event = tuning.first + count; which = tuning.which } ∷ []) []))
    (cond over (units_of (stay_on tuning bis) calls (tuning.first + count)) [])
taken_zip setup tuning bis calls count on taken false = tt
taken_zip setup tuning bis calls count on taken true = grind (arith, one_slots setup bis (record { event = tuning.first + count; which = tuning.which }) taken, on.info, units_in_slots setup tuning bis calls (tuning.first + count) on (omega arith))

event_zip : Below → (setup : Setup) (bis event : ℕ) (calls : List Call) (p : Option BigSync) → place calls ≡ p → ((tuning : BigSync) → p ≡ Some tuning → TunedTo setup tuning)
    → setup.info.framing ≡ 0 → 1 ≤ bis → bis ≤ 31 → AllZip (IsOfSlot setup bis) (slots_closed setup bis (closed_in p calls event)) (of_stream bis (handed_at calls event))
event_zip below setup bis event calls None is on plain least within = subst (λ q. AllZip (IsOfSlot setup bis) [] (of_stream bis (ticked_by event calls q))) (sym is) tt
event_zip below setup bis event calls (Some tuning) is on plain least within = elim (cases_Bool (is_in tuning.which bis)) [
  | inl taken ↦
      let units : of_stream bis (handed_at calls event)
      ≡ cond (leb (tuning.first + closes tuning calls) event) (units_of (stay_on tuning bis) (stream_calls (stay_on tuning bis) calls) (tuning.first + closes tuning calls)) [] =
      tick_hands below event calls tuning bis (ap (λ (i : BigInfo). i.framing) (on tuning refl).info ∙ plain) is (is_member tuning.which bis least within taken)
      ∙ ap (λ o. cond (leb o event) (units_of (stay_on tuning bis) (stream_calls (stay_on tuning bis) calls) o) []) (below.one_open tuning calls bis) in
      subst (λ shown. AllZip (IsOfSlot setup bis) (slots_closed setup bis (closed_in (Some tuning) calls event)) shown) (sym units)
      (taken_zip setup tuning bis (stream_calls (stay_on tuning bis) calls) (closes tuning calls) (on tuning refl) taken (leb (tuning.first + closes tuning calls) event))
  | inr free ↦
      let none : of_stream bis (handed_at calls event) ≡ [] =
      tick_others below event calls tuning bis is (λ at. true_not_false (is_in tuning.which bis) (member_is tuning.which bis at).0 free) in
      subst (λ shown. AllZip (IsOfSlot setup bis) (slots_closed setup bis (closed_in (Some tuning) calls event)) shown) (sym none)
      (grind (arith, leb))
]

-- ---- step by step

with_zip : Below → (setup : Setup) (bis : ℕ) (calls : List Call) (last_open : Option ℕ) (mine : Bool) → (mine ≡ true → (tuning : BigSync) → place calls ≡ Some tuning → TunedTo setup tuning)
    → setup.info.framing ≡ 0 → 1 ≤ bis → bis ≤ 31 → AllZip (IsOfSlot setup bis) (slots_closed setup bis (closed_if mine calls last_open)) (of_stream bis (shown_if mine calls last_open))
with_zip below setup bis calls last_open true on plain least within = grind (arith, event_zip, (on refl))
with_zip below setup bis calls last_open false on plain least within = tt

zip_if : (setup : Setup) (bis : ℕ) (its : Bool) (closed : List Closed) (units : List Handed) → AllZip (IsOfSlot setup bis) (slots_closed setup bis closed) (of_stream bis units)
    → AllZip (IsOfSlot setup bis) (slots_closed setup bis (cond its closed [])) (of_stream bis (cond its units []))
zip_if setup bis its closed units all = grind arith

pub step_zip : Below → (airs : Airs) (s n bis : ℕ) (setup : Setup) (step : Step) (earlier : List Step)
    → (is_of s (source_of n earlier) ≡ true → (tuning : BigSync) → place (sink_calls airs n earlier) ≡ Some tuning → TunedTo setup tuning) → setup.info.framing ≡ 0 → 1 ≤ bis → bis ≤ 31
    → AllZip (IsOfSlot setup bis) (slots_closed setup bis (closed_by airs s n earlier step)) (of_stream bis (shown_by airs s n earlier step))
step_zip below airs s n bis setup this earlier on plain least within = grind (arith, zip_if, with_zip)

pub shown_on : (s n bis : ℕ) (xs ys : List SinkUnit) → of_stream bis (of_sink s n (xs ++ ys)) ≡ of_stream bis (of_sink s n xs) ++ of_stream bis (of_sink s n ys)
shown_on s n bis xs ys = grind (arith, of_stream, handed_append, filter-append, eqb, bis_of, of_sink)

again_zip : (s n bis : ℕ) (setup : Setup) (again : Bool) (closed more : List Closed) (units others : List SinkUnit)
    → (again ≡ false → AllZip (IsOfSlot setup bis) (slots_closed setup bis closed) (of_stream bis (of_sink s n units)))
    → (again ≡ false → AllZip (IsOfSlot setup bis) (slots_closed setup bis more) (of_stream bis (of_sink s n others)))
    → AllZip (IsOfSlot setup bis) (slots_closed setup bis (cond again [] (closed ++ more))) (of_stream bis (of_sink s n (cond again [] (units ++ others))))
again_zip s n bis setup again closed more units others first rest = grind (arith, flat_map-append, shown_on, all_zip_append)

-- the stay that a sink is in, by what fixes the whole source
pub on_whole : Announcing → (airs : Airs) (boxes s n : ℕ) (setup : Setup) (whole : List SourceCall) (made : List Step) → Legal airs boxes made → given_since_made n made ≡ false
    → Within setup whole (steps_of_source s made) → is_of s (source_of n made) ≡ true → (tuning : BigSync) → place (sink_calls airs n made) ≡ Some tuning → TunedTo setup tuning
on_whole laws airs boxes s n setup whole made legal ungiven within mine tuning is =
    let on : OnSource (steps_of_source s made) tuning =
    on_source laws airs boxes s n made tuning legal (on_since_made airs s n made tuning is (is_its s (source_of n made) mine) ungiven) in
    subst (λ (setup' : Setup). TunedTo setup' tuning) (within.setup_is on.started) on.tuned

slots_zip : Below → (airs : Airs) (boxes s n bis : ℕ) (setup : Setup) (whole : List SourceCall) (made : List Step) → Legal airs boxes made → given_since_made n made ≡ false
    → Within setup whole (steps_of_source s made) → setup.info.framing ≡ 0 → s ≤ 1 → n ≤ 7 → 1 ≤ bis → bis ≤ 31
    → AllZip (IsOfSlot setup bis) (slots_closed setup bis (closed_since airs s n made)) (shown_since (is_made n) airs s n bis made)
slots_zip below airs boxes s n bis setup whole [] legal ungiven within plain s_within n_within least upper = tt
slots_zip below airs boxes s n bis setup whole (step ∷ earlier) legal ungiven within plain s_within n_within least upper =
    let before : Within setup whole (steps_of_source s earlier) = within_before airs boxes s setup whole earlier step legal within in
    let none : is_made n earlier step ≡ false → given_since_made n earlier ≡ false = rest_not (is_made n earlier step) (is_given n step) (given_since_made n earlier) ungiven in
    again_zip s n bis setup (is_made n earlier step) (closed_since airs s n earlier) (closed_by airs s n earlier step) (handed_since (is_made n) airs earlier) (handed_by airs earlier step)
    (λ on. slots_zip below airs boxes s n bis setup whole earlier legal.0 (none on) before plain s_within n_within least upper)
    (λ on. subst (λ units. AllZip (IsOfSlot setup bis) (slots_closed setup bis (closed_by airs s n earlier step)) (of_stream bis units))
    (sym (step_shown airs boxes s n step earlier legal.0 s_within n_within))
    (step_zip below airs s n bis setup step earlier (on_whole below.announcing airs boxes s n setup whole earlier legal.0 (none on) before) plain least upper))

pub slots_are_shown : Below → (airs : Airs) (boxes s n bis : ℕ) (made : List Step) → Legal airs boxes made → given_since_made n made ≡ false → (setup_of (steps_of_source s made)).info.framing ≡ 0
    → s ≤ 1 → n ≤ 7 → 1 ≤ bis → bis ≤ 31
    → AllZip (IsOfSlot (setup_of (steps_of_source s made)) bis) (slots_closed (setup_of (steps_of_source s made)) bis (closed_since airs s n made)) (shown_since (is_made n) airs s n bis made)
slots_are_shown below airs boxes s n bis made legal ungiven plain s_within n_within least upper =
    slots_zip below airs boxes s n bis (setup_of (steps_of_source s made)) (source_calls (steps_of_source s made)) made legal ungiven (within_itself
    (steps_of_source s made)) plain s_within n_within least upper
