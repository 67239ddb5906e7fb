-- The valid units that a sink hands up of a source are units that the source accepted, in order.
use Rattle.scenario_laws.proofs.Known.{ℕ, ◌≡◌, ◌<◌, ◌≤◌, ◌+◌, ◌==◌, cond, leb, Bool, true, false, List, [], ◌∷◌, ◌++◌, length, map, Option, None, Some, refl, sym, ◌∙◌, ap, subst, arith, inl, inr, eq-eqb, cases_Bool, leb-true, false≢true, append-nil, filter-append, BigInfo, Handed, slots_of, Airs, Setup, events, Call, tick, BigSync, handed_at, of_stream, is_in, stay_on, stream_calls, is_member, member_is, Step, chosen_of, steps_of_source, setup_of, source_calls, open_event, MeetAirs, is_of, sink_calls, source_of, ticked, SinkUnit, handed_by, closed_by, given_since_made, handed_since, injected_since, is_given, is_injected, is_made, is_tuned, of_sink, shown_since, InSourceOrder, valid_in, laid_events, unframed_units_of as units_of, SourceCall, source_stream, place, closes, Below, Legal, legal, lawful, true_not_false, Within, events_more, next_in, next_rises, within_before, within_itself, IsOn, OnSource, TunedTo, last_not, not_in_stay, on_since_made, on_source, rest_not, handed_open, shown_by, shown_if, step_shown, end_ticks, event_ticks, is_its, climbs, event_of, prefix, prefix_of, its_prefix, mine_in, open_before, on_whole, shown_on, tick_hands, tick_others, climb_up}
use Rattle.scenario_laws.proofs.UnitsLaw.{slot_short}
use Rattle.scenario_laws.proofs.Closes.{closing, moved}
use Rattle.scenario_laws.proofs.Numbers.{laid_least, Ordered, ordered_none, ordered_later, ordered_more, close_batch}

-- ---- no PDU was injected into the sink

pub clean_stay : (airs : Airs) (s n : ℕ) (made : List Step) (tuning : BigSync) → IsOn airs s n made tuning → given_since_made n made ≡ false → injected_since (is_made n) n made ≡ false
    → injected_since (is_tuned n) n made ≡ false
clean_stay airs s n made tuning is ungiven clean = not_in_stay (is_injected n) airs s n made tuning (record { place_is = is.place_is; source_is = is.source_is }) ungiven clean

-- ---- step by step

abbrev Fits : Setup → List SourceCall → ℕ → Type 0
Fits setup whole bis = (event : ℕ) → (slot : ℕ) → (unit : List ℕ) → slots_of setup whole bis event slot ≡ Some unit → length unit ≤ setup.info.max_sdu

ordered_same : (setup : Setup) (whole : List SourceCall) (bis next later : ℕ) (units more : List Handed) → next ≤ later → more ≡ [] → Ordered setup whole bis next units
    → Ordered setup whole bis later (units ++ valid_in more)
ordered_same setup whole bis next later units more past none order = grind (arith, valid_in, append-nil, ordered_later)

at_least : (over : Bool) (first count : ℕ) → first + count ≤ first + cond over (count + 1) count
at_least over first count = grind arith

-- the premises that all steps share
pub record Ready (airs : Airs) (boxes s n bis : ℕ) (setup : Setup) (whole : List SourceCall) (made : List Step) : Type 0 where
  pub legal_is : Legal airs boxes made
  pub within : Within setup whole (steps_of_source s made)
  pub ungiven : given_since_made n made ≡ false
  pub clean : injected_since (is_made n) n made ≡ false
  pub plain : setup.info.framing ≡ 0
  pub source_below : s ≤ 1
  pub sink_below : n ≤ 7
  pub least : 1 ≤ bis
  pub greatest : bis ≤ 31
  pub fits : Fits setup whole bis

cond_true_more : (first count : ℕ) (over : Bool) → over ≡ true → first + count < first + cond over (count + 1) count
cond_true_more first count over is = grind (arith, false≢true)

-- the open event is closed
closed_orders : Below → (airs : Airs) → MeetAirs airs → (boxes s n bis : ℕ) (setup : Setup) (whole : List SourceCall) (made : List Step) → Ready airs boxes s n bis setup whole made
    → (event : ℕ) → event < next_in (steps_of_source s made) → (tuning : BigSync) → IsOn airs s n made tuning → (later : ℕ) → tuning.first + closes tuning (sink_calls airs n made) < later
    → tuning.first + closes tuning (sink_calls airs n made) ≤ event → (units : List Handed) → Ordered setup whole bis (tuning.first + closes tuning (sink_calls airs n made)) units
    → of_stream bis (handed_at (sink_calls airs n made) event)
    ≡ units_of (stay_on tuning bis) (stream_calls (stay_on tuning bis) (sink_calls airs n made)) (tuning.first + closes tuning (sink_calls airs n made))
    → Ordered setup whole bis later (units ++ valid_in (of_stream bis (handed_at (sink_calls airs n made) event)))
closed_orders below airs meets boxes s n bis setup whole made ready event before tuning is later past over units order shown =
    let own : List Step = steps_of_source s made in
    let there : OnSource own tuning = on_source below.announcing airs boxes s n made tuning ready.legal_is is in
    let setup_is : setup_of own ≡ setup = ready.within.setup_is there.started in
    let on : TunedTo setup tuning = subst (λ (setup' : Setup). TunedTo setup' tuning) setup_is there.tuned in
    let same : (setup_of own).first ≡ setup.first = ap (λ (setup' : Setup). setup'.first) setup_is in
    let more : events (source_calls own) ≤ events whole = subst (λ calls. events (source_calls own) ≤ events calls) (sym ready.within.calls.1) (events_more ready.within.calls.0 (source_calls own)) in
    let laid : events whole ≤ laid_events (source_stream setup.info bis whole) = laid_least setup.info bis whole in
    let last = close_batch below airs meets boxes s n bis setup whole tuning made ready.legal_is ready.within on ready.least is ready.plain
    (clean_stay airs s n made tuning is ready.ungiven ready.clean) ready.fits (tuning.first + closes tuning (sink_calls airs n made))
    (below.one_open tuning (sink_calls airs n made) bis) (omega arith) (omega (arith, over, before, same, more)) in
    subst (λ (us : List Handed). Ordered setup whole bis later (units ++ valid_in us)) (sym shown)
    (ordered_more setup whole bis (tuning.first + closes tuning (sink_calls airs n made)) later units
    (valid_in (units_of (stay_on tuning bis) (stream_calls (stay_on tuning bis) (sink_calls airs n made)) (tuning.first + closes tuning (sink_calls airs n made))))
    (omega (arith, on.first)) past (omega (arith, over, before, same, more, laid, on.first)) order last)

event_orders : Below → (airs : Airs) → MeetAirs airs → (boxes s n bis : ℕ) (setup : Setup) (whole : List SourceCall) (made : List Step) → Ready airs boxes s n bis setup whole made
    → (event : ℕ) → event < next_in (steps_of_source s made) → source_of n made ≡ Some s → (p : Option BigSync) → place (sink_calls airs n made) ≡ p → (next later : ℕ)
    → next_in (steps_of_source s made) ≤ next → prefix_of p (tick event ∷ sink_calls airs n made) next ≤ later → (units : List Handed)
    → Ordered setup whole bis (prefix_of p (sink_calls airs n made) (next_in (steps_of_source s made))) units
    → Ordered setup whole bis later (units ++ valid_in (of_stream bis (handed_at (sink_calls airs n made) event)))
event_orders below airs meets boxes s n bis setup whole made ready event before its None is next later more past units order = grind (arith, ordered_same, next_in, steps_of_source, of_stream, handed_at, sink_calls)
event_orders below airs meets boxes s n bis setup whole made ready event before its (Some tuning) is next later more past units order =
    let calls : List Call = sink_calls airs n made in
    let prefix_is : tuning.first + closes tuning calls ≤ later =
    omega (arith, past, at_least (leb (tuning.first + closes tuning (sink_calls airs n made)) event) tuning.first (closes tuning (sink_calls airs n made))) in
    elim (cases_Bool (is_in tuning.which bis)) [
      | inr free ↦ ordered_same setup whole bis (tuning.first + closes tuning (sink_calls airs n made)) later units (of_stream bis (handed_at (sink_calls airs n made) event)) prefix_is
          (tick_others below event (sink_calls airs n made) tuning bis is (λ taken. true_not_false (is_in tuning.which bis) (member_is tuning.which bis taken).0 free)) order
      | inl taken ↦
          let shown : of_stream bis (handed_at (sink_calls airs n made) event)
          ≡ cond (leb (tuning.first + closes tuning (sink_calls airs n made)) event)
          (units_of (stay_on tuning bis) (stream_calls (stay_on tuning bis) (sink_calls airs n made)) (tuning.first + closes tuning (sink_calls airs n made))) [] =
          tick_hands below event (sink_calls airs n made) tuning bis (ap (λ (i : BigInfo). i.framing)
          (on_whole below.announcing airs boxes s n setup whole made ready.legal_is ready.ungiven ready.within (ap
          (is_of s) its ∙ eq-eqb s s refl) tuning is).info ∙ ready.plain) is (is_member tuning.which bis ready.least ready.greatest taken)
          ∙ ap (λ o. cond (leb o event) (units_of (stay_on tuning bis) (stream_calls (stay_on tuning bis) (sink_calls airs n made)) o) []) (below.one_open tuning (sink_calls airs n made) bis) in
          elim (cases_Bool (leb (tuning.first + closes tuning (sink_calls airs n made)) event)) [
            | inr not_over ↦ grind (arith, ordered_same, sink_calls, of_stream, handed_at, cond, stay_on, stream_calls)
            | inl over ↦ closed_orders below airs meets boxes s n bis setup whole made ready event before tuning (on_since_made airs s n made tuning is its ready.ungiven) later
                (omega (arith, past, cond_true_more tuning.first (closes tuning (sink_calls airs n made)) (leb (tuning.first + closes tuning (sink_calls airs n made)) event) over))
                (leb-true _ _ over) units order
                (shown ∙ ap (λ b. cond b (units_of (stay_on tuning bis) (stream_calls (stay_on tuning bis) (sink_calls airs n made)) (tuning.first + closes tuning (sink_calls airs n made))) []) over)
          ]
    ]

step_orders : Below → (airs : Airs) → MeetAirs airs → (boxes s n bis : ℕ) (setup : Setup) (whole : List SourceCall) (made : List Step) → Ready airs boxes s n bis setup whole made
    → (shut : Option ℕ) → ((event : ℕ) → shut ≡ Some event → event < next_in (steps_of_source s made)) → source_of n made ≡ Some s → (next : ℕ) → next_in (steps_of_source s made) ≤ next
    → (units : List Handed) → Ordered setup whole bis (prefix true (sink_calls airs n made) (next_in (steps_of_source s made))) units
    → prefix true (sink_calls airs n made) (next_in (steps_of_source s made)) ≤ prefix true (ticked shut (sink_calls airs n made)) next
    → Ordered setup whole bis (prefix true (ticked shut (sink_calls airs n made)) next) (units ++ valid_in (of_stream bis (handed_open (sink_calls airs n made) shut)))
step_orders below airs meets boxes s n bis setup whole made ready None before its next more units order past =
    ordered_same setup whole bis (prefix true (sink_calls airs n made) (next_in (steps_of_source s made))) (prefix true (sink_calls airs n made) next) units [] past refl order
step_orders below airs meets boxes s n bis setup whole made ready (Some event) before its next more units order past = grind (arith, event_orders, sink_calls, prefix, tick)

-- a close of an event of the source, or of another
close_orders : Below → (airs : Airs) → MeetAirs airs → (boxes s n bis : ℕ) (setup : Setup) (whole : List SourceCall) (made : List Step) → Ready airs boxes s n bis setup whole made
    → (shut : Option ℕ) → ((event : ℕ) → shut ≡ Some event → event < next_in (steps_of_source s made)) → (mine its : Bool) → is_of s (source_of n made) ≡ mine
    → (calls' : List Call) → (mine ≡ true → calls' ≡ cond its (ticked shut (sink_calls airs n made)) (sink_calls airs n made)) → (next : ℕ) → next_in (steps_of_source s made) ≤ next
    → (units : List Handed) → Ordered setup whole bis (prefix mine (sink_calls airs n made) (next_in (steps_of_source s made))) units
    → prefix mine (sink_calls airs n made) (next_in (steps_of_source s made)) ≤ prefix mine calls' next
    → Ordered setup whole bis (prefix mine calls' next) (units ++ valid_in (of_stream bis (cond its (shown_if mine (sink_calls airs n made) shut) [])))
close_orders below airs meets boxes s n bis setup whole made ready shut before mine false is calls' same next more units order past =
    ordered_same setup whole bis (prefix mine (sink_calls airs n made) (next_in (steps_of_source s made))) (prefix mine calls' next) units [] past refl order
close_orders below airs meets boxes s n bis setup whole made ready shut before false true is calls' same next more units order past =
    ordered_same setup whole bis (next_in (steps_of_source s made)) next units [] past refl order
close_orders below airs meets boxes s n bis setup whole made ready shut before true true is calls' same next more units order past =
    subst (λ cs. Ordered setup whole bis (prefix true cs next) (units ++ valid_in (of_stream bis (handed_open (sink_calls airs n made) shut)))) (sym (same refl))
    (step_orders below airs meets boxes s n bis setup whole made ready shut before (is_its s (source_of n made) is) next more units order
    (subst (λ cs. prefix true (sink_calls airs n made) (next_in (steps_of_source s made)) ≤ prefix true cs next) (same refl) past))

by_step : Below → (airs : Airs) → MeetAirs airs → (boxes s n bis : ℕ) (setup : Setup) (whole : List SourceCall) (step : Step) (earlier : List Step)
    → Ready airs boxes s n bis setup whole earlier → (next : ℕ) → next_in (steps_of_source s earlier) ≤ next → (units : List Handed)
    → Ordered setup whole bis (its_prefix airs s n earlier) units
    → its_prefix airs s n earlier ≤ prefix (mine_in s n (step ∷ earlier)) (sink_calls airs n (step ∷ earlier)) next
    → Ordered setup whole bis (prefix (mine_in s n (step ∷ earlier)) (sink_calls airs n (step ∷ earlier)) next)
    (units ++ valid_in (of_stream bis (shown_by airs s n earlier step)))
by_step below airs meets boxes s n bis setup whole Step.Event earlier ready next more units order past =
    close_orders below airs meets boxes s n bis setup whole earlier ready (open_event (steps_of_source s earlier)) (open_before (steps_of_source s earlier)) (mine_in s n earlier)
    (chosen_of earlier == s) refl _
    (λ mine. event_ticks (chosen_of earlier) s (λ t. open_event (steps_of_source t earlier)) (sink_calls airs n earlier) (source_of n earlier) (is_its s (source_of n earlier) mine))
    next more units order past
by_step below airs meets boxes s n bis setup whole Step.Stop earlier ready next more units order past =
    close_orders below airs meets boxes s n bis setup whole earlier ready (open_event (steps_of_source s earlier)) (open_before (steps_of_source s earlier)) (mine_in s n earlier)
    (chosen_of earlier == s) refl _
    (λ mine. event_ticks (chosen_of earlier) s (λ t. open_event (steps_of_source t earlier)) (sink_calls airs n earlier) (source_of n earlier) (is_its s (source_of n earlier) mine))
    next more units order past
by_step below airs meets boxes s n bis setup whole (Step.Terminate reason) earlier ready next more units order past =
    close_orders below airs meets boxes s n bis setup whole earlier ready (open_event (steps_of_source s earlier)) (open_before (steps_of_source s earlier)) (mine_in s n earlier)
    (chosen_of earlier == s) refl _
    (λ mine. event_ticks (chosen_of earlier) s (λ t. open_event (steps_of_source t earlier)) (sink_calls airs n earlier) (source_of n earlier) (is_its s (source_of n earlier) mine))
    next more units order past
by_step below airs meets boxes s n bis setup whole Step.End earlier ready next more units order past =
    close_orders below airs meets boxes s n bis setup whole earlier ready (open_event (steps_of_source s earlier)) (open_before (steps_of_source s earlier)) (mine_in s n earlier) true refl _
    (λ mine. end_ticks s (λ t. open_event (steps_of_source t earlier)) (sink_calls airs n earlier) (source_of n earlier) ready.source_below (is_its s (source_of n earlier) mine))
    next more units order past
by_step below airs meets boxes s n bis setup whole _ earlier ready next more units order past =
    ordered_same setup whole bis (its_prefix airs s n earlier) _ units [] past refl order

again_orders : (setup : Setup) (whole : List SourceCall) (s n bis next : ℕ) (again : Bool) (units others : List SinkUnit)
    → (again ≡ false → Ordered setup whole bis next (valid_in (of_stream bis (of_sink s n units)) ++ valid_in (of_stream bis (of_sink s n others))))
    → Ordered setup whole bis next (valid_in (of_stream bis (of_sink s n (cond again [] (units ++ others)))))
again_orders setup whole s n bis next again units others order = grind (arith, ordered_none, shown_on, filter-append)

orders : Below → (airs : Airs) → MeetAirs airs → (boxes s n bis : ℕ) (setup : Setup) (whole : List SourceCall) (made : List Step) → Ready airs boxes s n bis setup whole made
    → Ordered setup whole bis (its_prefix airs s n made) (valid_in (shown_since (is_made n) airs s n bis made))
orders below airs meets boxes s n bis setup whole [] ready = ordered_none setup whole bis (its_prefix airs s n [])
orders below airs meets boxes s n bis setup whole (step ∷ earlier) ready =
    let legal_before : Legal airs boxes earlier = ready.legal_is.0 in
    again_orders setup whole s n bis (its_prefix airs s n (step ∷ earlier)) (is_made n earlier step) (handed_since (is_made n) airs earlier) (handed_by airs earlier step)
    (λ on.
    let before : Ready airs boxes s n bis setup whole earlier = search (within_before, rest_not, is_made, is_given, given_since_made, is_injected, injected_since) in
    let now = moved below.announcing airs boxes s n step earlier ready.legal_is (last_not (is_made n earlier step) (is_given n step) (given_since_made n earlier) ready.ungiven) ready.source_below
    (closing below.announcing airs boxes s n earlier legal_before before.ungiven ready.source_below).within in
    subst (λ (us : List Handed). Ordered setup whole bis (its_prefix airs s n (step ∷ earlier)) (valid_in (shown_since (is_made n) airs s n bis earlier) ++ valid_in (of_stream bis us)))
    (sym (step_shown airs boxes s n step earlier legal_before ready.source_below ready.sink_below))
    (by_step below airs meets boxes s n bis setup whole step earlier before (next_in (steps_of_source s (step ∷ earlier))) (next_rises airs boxes s earlier step ready.legal_is)
    (valid_in (shown_since (is_made n) airs s n bis earlier)) (orders below airs meets boxes s n bis setup whole earlier before)
    (climb_up (its_prefix airs s n earlier) (map event_of (closed_by airs s n earlier step)) (its_prefix airs s n (step ∷ earlier)) now.climbs_on)))

pub units_in_order : Below → (airs : Airs) → MeetAirs airs → (boxes s n bis : ℕ) (made : List Step) → Legal airs boxes made → (setup_of (steps_of_source s made)).info.framing ≡ 0 → s ≤ 1
    → n ≤ 7 → 1 ≤ bis → bis ≤ 31 → given_since_made n made ≡ false → injected_since (is_made n) n made ≡ false
    → InSourceOrder (setup_of (steps_of_source s made)) (source_calls (steps_of_source s made)) bis (valid_in (shown_since (is_made n) airs s n bis made))
units_in_order below airs meets boxes s n bis made legal plain source_below sink_below least greatest ungiven clean =
    let order : Ordered (setup_of (steps_of_source s made)) (source_calls (steps_of_source s made)) bis (its_prefix airs s n made) (valid_in (shown_since (is_made n) airs s n bis made)) = grind (arith, orders, setup_of, steps_of_source, source_calls, within_itself, slot_short, lawful, legal) in
    record { numbers = order.numbers; rising = climbs 0 order.numbers order.high order.climb; given = order.given }
