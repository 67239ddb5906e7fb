-- Each PDU that a sink hears on a stream of its group is the source's own at its payload number, where none is injected.
use Rattle.scenario_laws.proofs.Known.Sources.{ℕ, zero, suc, ◌≡◌, ◌≢◌, ◌<◌, ◌≤◌, ◌+◌, ◌*◌, ◌/◌, ◌%◌, ◌||◌, ◌==◌, cond, ltb, leb, Bool, true, false, List, [], ◌∷◌, Option, Some, refl, sym, subst, arith, inl, inr, AllByRecursion, div-lt_iff_lt-mul, eqb-true, eqb-false, ltb-false, leb-false, false≢true, mod_below, none-some, Bounds, Content, pdu, laid, payload_number, AreAirs, Airs, Setup, events, next_of, air_fault, Call, tune, hear, BigSync, stay_on, stream_calls, Step, NotOnAir, chosen_of, chosen_steps, steps_of_source, setup_of, source_calls, performed, event_back, is_started, pdu_in, open_event, MeetAirs, position_at, is_lost, is_of, hear_at, unless_lost, heard_on_air, reaches, sink_calls, source_of, positions_of, ticked_if, big_sync_on, air_refusal, injected_since, is_injected, is_tuned, SourceCall, Legal, Permitted, fails_not, maps_none, permitted, Lawful, are_accepted, bounds_in, group_in, lawful, settled, Within, within_before, StaysBy, announced, given_stays, plain_stays, StayCall}
use Rattle.scenario_laws.proofs.Announced.{Announcing}
use Rattle.scenario_laws.proofs.Stays.{IsOn, OnSource, begins_calls, last_not, on_before, on_source, rest_not}

-- each PDU of a stream that these steps of a source sent is the source's own, by what it lays at each number
abbrev pub SendsOwn : Airs → (ℕ → Content) → BigSync → ℕ → List Step → Type 0
SendsOwn airs laid tuning bis own = (event : ℕ) → (subevent : ℕ) → (setup_of own).first ≤ event → event < next_of (setup_of own) (source_calls own)
    → 1 ≤ bis → bis ≤ (setup_of own).info.num_bis → subevent < (setup_of own).info.nse
    → pdu_in airs own event bis subevent ≡ pdu (laid (payload_number tuning.info event subevent))

-- the airs of a source that was started meet their relation
pub its_airs : (airs : Airs) → MeetAirs airs → (own : List Step) → Lawful airs own → is_started own ≡ true → AreAirs (setup_of own) (source_calls own) (airs (setup_of own) (source_calls own))
its_airs airs meets own legal started =
    meets.meet (group_in own (settled airs own legal) started) (setup_of own) (source_calls own) refl (are_accepted airs own legal)

-- ---- what a stay takes

-- the call is no hear, or hears the source's own PDU, by what the source lays at each number
abbrev pub Own : (ℕ → Content) → StayCall → Type 0
Own laid (StayCall.hear number octets) = octets ≡ pdu (laid number)
Own laid StayCall.close = Unit {0}

abbrev pub AllOwn : (ℕ → Content) → BigSync → ℕ → List Call → Type 0
AllOwn laid tuning bis calls = AllByRecursion (Own laid) (stream_calls (stay_on tuning bis) calls)

gone_own : (laid : ℕ → Content) (tuning : BigSync) (bis : ℕ) (gone : Bool) (calls : List Call)
    → AllOwn laid tuning bis calls → AllOwn laid tuning bis (cond gone [] calls)
gone_own laid tuning bis gone calls all = grind arith

put_own : (laid : ℕ → Content) (tuning : BigSync) (bis : ℕ) (put injected : Bool) (on : BigSync) (calls : List Call)
    → cond put false (false || injected) ≡ false → (injected ≡ false → AllOwn laid tuning bis calls) → AllOwn laid tuning bis (cond put (tune on ∷ calls) calls)
put_own laid tuning bis put injected on calls clean before = grind arith

hear_own : (laid : ℕ → Content) (tuning : BigSync) (bis : ℕ) (event stream subevent : ℕ) (octets : List ℕ) (calls : List Call)
    → AllOwn laid tuning bis calls → (stream ≡ bis → octets ≡ pdu (laid (payload_number tuning.info event subevent)))
    → AllOwn laid tuning bis (hear event stream subevent octets ∷ calls)
hear_own laid tuning bis event stream subevent octets calls all own = grind (arith, laid, ltb, eqb-true)

mine_own : (laid : ℕ → Content) (tuning : BigSync) (bis : ℕ) (mine : Bool) (more calls : List Call)
    → AllOwn laid tuning bis calls → (mine ≡ true → AllOwn laid tuning bis more) → AllOwn laid tuning bis (cond mine more calls)
mine_own laid tuning bis mine more calls all all_more = grind arith

unless_own : (laid : ℕ → Content) (tuning : BigSync) (bis : ℕ) (gone : Bool) (call : Call) (calls : List Call)
    → AllOwn laid tuning bis calls → AllOwn laid tuning bis (call ∷ calls) → AllOwn laid tuning bis (unless_lost gone call calls)
unless_own laid tuning bis gone call calls all all_more = grind arith

-- a PDU of an event that was performed, of a stream and a subevent of the group
place_own : (airs : Airs) (laid : ℕ → Content) (tuning : BigSync) (own : List Step) (bis back stream subevent : ℕ) → SendsOwn airs laid tuning bis own
    → 1 ≤ bis → stream ≤ (setup_of own).info.num_bis → subevent < (setup_of own).info.nse → back < performed own → stream ≡ bis
    → pdu_in airs own (event_back own back) stream subevent ≡ pdu (laid (payload_number tuning.info (event_back own back) subevent))
place_own airs laid tuning own bis back stream subevent sent least within below near mine = grind (arith, event_back)

air_own : (airs : Airs) (laid : ℕ → Content) (tuning : BigSync) (own : List Step) (bis lose count : ℕ) (calls : List Call) → SendsOwn airs laid tuning bis own
    → 1 ≤ bis → 1 ≤ (setup_of own).info.nse → 0 < performed own → count ≤ (setup_of own).info.num_bis * (setup_of own).info.nse
    → AllOwn laid tuning bis calls → AllOwn laid tuning bis (heard_on_air airs own lose count calls)
air_own airs laid tuning own bis lose zero calls sent least some near within all = all
air_own airs laid tuning own bis lose (suc i) calls sent least some near within all =
    let rest : AllOwn laid tuning bis (heard_on_air airs own lose i calls) =
    air_own airs laid tuning own bis lose i calls sent least some near (omega (arith, within)) all in
    let row : i / (setup_of own).info.nse < (setup_of own).info.num_bis = (div-lt_iff_lt-mul (omega (arith, some))).1 (omega (arith, within)) in
    unless_own laid tuning bis (is_lost (setup_of own).info (event_back own 0) lose (position_at (setup_of own).info i))
    (hear_at airs own (event_back own 0) (position_at (setup_of own).info i)) (heard_on_air airs own lose i calls) rest
    (hear_own laid tuning bis (event_back own 0) (i / (setup_of own).info.nse + 1) (i % (setup_of own).info.nse) _ (heard_on_air airs own lose i calls) rest
    (grind (arith, place_own, laid, setup_of, mod_below)))

tick_if_own : (laid : ℕ → Content) (tuning : BigSync) (bis : ℕ) (mine : Bool) (last_open : Option ℕ) (calls : List Call)
    → AllOwn laid tuning bis calls → AllOwn laid tuning bis (ticked_if mine last_open calls)
tick_if_own laid tuning bis mine last_open calls all = grind (arith, laid)

-- ---- a place on the air that isn't refused

pub record OnAir (own : List Step) (back bis subevent : ℕ) : Type 0 where
  pub stream : bis ≤ (setup_of own).info.num_bis
  pub subevent_below : subevent < (setup_of own).info.nse
  pub performed_then : back < performed own

-- ---- step by step

-- what is known before a step of a sink on a group of the source
pub record Ready (airs : Airs) (laid : ℕ → Content) (tuning : BigSync) (bis : ℕ) (own : List Step) (calls : List Call) : Type 0 where
  pub all : AllOwn laid tuning bis calls
  pub sent : SendsOwn airs laid tuning bis own
  pub bounds : Bounds (setup_of own).info

sent_by : (airs : Airs) (laid : ℕ → Content) (tuning : BigSync) (bis s n sink : ℕ) (earlier : List Step) (calls : List Call) → source_of n earlier ≡ Some s
    → reaches sink n earlier ≡ true → Ready airs laid tuning bis (steps_of_source s earlier) calls → Ready airs laid tuning bis (chosen_steps earlier) calls
sent_by airs laid tuning bis s n sink earlier calls there mine ready = grind (arith, laid, steps_of_source, chosen_of, source_of)

stays_own : (airs : Airs) (laid : ℕ → Content) (tuning : BigSync) (n bis : ℕ) (step : Step) (earlier : List Step) (injected : Bool)
    → cond (is_tuned n earlier step) (is_injected n step) (is_injected n step || injected) ≡ false → StaysBy airs n step earlier
    → (injected ≡ false → AllOwn laid tuning bis (sink_calls airs n earlier)) → AllOwn laid tuning bis (sink_calls airs n (step ∷ earlier))
stays_own airs laid tuning n bis this earlier injected clean stays before = grind (arith, laid, rest_not)

own_after : (airs : Airs) (laid : ℕ → Content) (tuning : BigSync) (boxes s n bis : ℕ) (step : Step) (earlier : List Step) (injected : Bool)
    → Permitted airs boxes earlier step → 1 ≤ bis → source_of n earlier ≡ Some s → cond (is_tuned n earlier step) (is_injected n step) (is_injected n step || injected) ≡ false
    → (injected ≡ false → Ready airs laid tuning bis (steps_of_source s earlier) (sink_calls airs n earlier))
    → AllOwn laid tuning bis (sink_calls airs n (step ∷ earlier))
own_after airs laid tuning boxes s n bis (Step.Tuned sink which) earlier injected permits least there clean ready =
    put_own laid tuning bis (sink == n) injected (big_sync_on (chosen_steps earlier) which) (sink_calls airs n earlier) clean (λ none. (ready none).all)
own_after airs laid tuning boxes s n bis (Step.Hear sink back stream subevent) earlier injected permits least there clean ready =
    let at : OnAir (chosen_steps earlier) back stream subevent = grind (
      arith,
      air_fault,
      setup_of,
      source_calls,
      maps_none,
      air_refusal,
      none-some,
      ltb,
      leb,
      events,
      ltb-false,
      leb-false,
    ) in
    mine_own laid tuning bis (reaches sink n earlier) _ (sink_calls airs n earlier) (ready clean).all
    (λ mine. let now = sent_by airs laid tuning bis s n sink earlier (sink_calls airs n earlier) there mine (ready clean) in
    hear_own laid tuning bis (event_back (chosen_steps earlier) back) stream subevent _ (sink_calls airs n earlier) now.all
    (place_own airs laid tuning (chosen_steps earlier) bis back stream subevent now.sent least at.stream at.subevent_below at.performed_then))
own_after airs laid tuning boxes s n bis (Step.Air sink lose) earlier injected permits least there clean ready =
    let some : (performed (chosen_steps earlier) == 0) ≡ false = fails_not (performed (chosen_steps earlier) == 0) NotOnAir permits.by_source in
    let near : performed (chosen_steps earlier) ≢ 0 = eqb-false (performed (chosen_steps earlier)) 0 some in
    mine_own laid tuning bis (reaches sink n earlier) (heard_on_air airs (chosen_steps earlier) lose (positions_of (chosen_steps earlier)) (sink_calls airs n earlier)) (sink_calls airs n earlier)
    (ready clean).all
    (λ mine. let now = sent_by airs laid tuning bis s n sink earlier (sink_calls airs n earlier) there mine (ready clean) in
    air_own airs laid tuning (chosen_steps earlier) bis lose (positions_of (chosen_steps earlier)) (sink_calls airs n earlier) now.sent least now.bounds.nse (omega (arith, near)) (omega arith) now.all)
own_after airs laid tuning boxes s n bis (Step.Inject sink back stream subevent octets) earlier injected permits least there clean ready =
    grind (arith, laid, is_of, chosen_of, source_of, hear, event_back, chosen_steps, sink_calls, false≢true)
own_after airs laid tuning boxes s n bis Step.End earlier injected permits least there clean ready =
    tick_if_own laid tuning bis (is_of 1 (source_of n earlier)) (open_event (steps_of_source 1 earlier))
    (ticked_if (is_of 0 (source_of n earlier)) (open_event (steps_of_source 0 earlier)) (sink_calls airs n earlier))
    (tick_if_own laid tuning bis (is_of 0 (source_of n earlier)) (open_event (steps_of_source 0 earlier)) (sink_calls airs n earlier) (ready clean).all)
own_after airs laid tuning boxes s n bis (Step.Announce sink) earlier injected permits least there clean ready = grind (arith, announced, stays_own, laid, rest_not, is_tuned)
own_after airs laid tuning boxes s n bis (Step.Train sink time ext adv acad) earlier injected permits least there clean ready = grind (arith, stays_own, laid, given_stays, last_not, is_tuned)
own_after airs laid tuning boxes s n bis this earlier injected permits least there clean ready =
    search (gone_own, tick_if_own, (ready clean).all, stays_own, plain_stays)

-- what the source sends, so far and later, is its own, by what it lays at each number in all
abbrev pub WholeSends : Airs → Setup → List SourceCall → (ℕ → Content) → BigSync → ℕ → Type 0
WholeSends airs setup whole laid tuning bis = (own : List Step) → Lawful airs own → is_started own ≡ true → Within setup whole own → SendsOwn airs laid tuning bis own

-- all that a stay hears is the source's own
pub all_own : Announcing → (airs : Airs) (setup : Setup) (whole : List SourceCall) (laid : ℕ → Content) (tuning : BigSync) (boxes s n bis : ℕ) (made : List Step)
    → WholeSends airs setup whole laid tuning bis → Legal airs boxes made
    → Within setup whole (steps_of_source s made) → 1 ≤ bis → IsOn airs s n made tuning → injected_since (is_tuned n) n made ≡ false
    → AllOwn laid tuning bis (sink_calls airs n made)
all_own laws airs setup whole laid tuning boxes s n bis [] sends legal within least is clean = tt
all_own laws airs setup whole laid tuning boxes s n bis (step ∷ earlier) sends legal within least is clean = elim (on_before airs s n step earlier tuning is) [
  | inl before ↦
      let shorter : Within setup whole (steps_of_source s earlier) = within_before airs boxes s setup whole earlier step legal within in
      let on : OnSource (steps_of_source s earlier) tuning = on_source laws airs boxes s n earlier tuning legal.0 before in
      let own_legal : Lawful airs (steps_of_source s earlier) = lawful airs boxes s earlier legal.0 in
      own_after airs laid tuning boxes s n bis step earlier (injected_since (is_tuned n) n earlier)
      (permitted airs boxes earlier step legal.1) least before.source_is clean (λ none. (assumption (
        all_own laws airs setup whole laid tuning boxes s n bis earlier sends legal.0 shorter least before none,
        sends (steps_of_source s earlier) own_legal on.started shorter,
        bounds_in (steps_of_source s earlier) (settled airs (steps_of_source s earlier) own_legal) on.started,
      )))
  | inr begins ↦ subst (AllOwn laid tuning bis) (sym (begins_calls airs s n step earlier tuning begins)) tt
]
