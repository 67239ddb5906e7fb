-- The units law of a stay.
use Rattle.scenario_laws.proofs.Known.{ℕ, zero, suc, ◌≡◌, ◌≤◌, ◌+◌, ◌-◌, ◌==◌, cond, ltb, Bool, false, List, [], ◌∷◌, ◌++◌, length, Option, Some, refl, sym, ◌∙◌, ap, subst, inl, inr, arith, slice_get, AllByRecursion, Contains, eq-eqb, eqb-true, ltb-false, append-nil, none-some, BigInfo, Bounds, Account, Handed, before_event, lay, lays, begun, handed, Struck, air_at, slots_of, Airs, Call, tune, hear, BigSync, of_stream, stay_on, streams_of, member_is, Step, chosen_of, chosen_steps, steps_of_source, open_event, setup_of, source_calls, MeetAirs, heard_on_air, is_of, reaches, sink_calls, source_of, positions_of, ticked, ticked_if, unless_lost, big_sync_on, SinkUnit, handed_by, steps_of, IsStayStruck, UnitsLaw, any_since, calls_on, handed_since, injected_since, is_given, is_tuned, of_sink, StreamCall, unframed_accept as accept, unframed_accepted as accepted, source_stream, place, ticked_since, Below, Legal, legal, maps_none, Lawful, Settled, bounds_in, lawful, settled, within_itself, StaysBy, announced, given_stays, plain_stays, BeginsBy, IsOn, IsThere, OnSource, first_next, last_not, none_given, on_before, on_source, rest_not, all_own, stay_within, handed_open, shown_by, shown_with, step_shown, second_false, chosen_within, end_ticks, event_ticks, all_append, PutsBy, handed_append, one_of}
use Rattle.scenario_laws.proofs.FromSources.{sends_own, from_source}
use Rattle.scenario_laws.proofs.FramedStays.{framed_law, taken_within}

-- ---- no unit is longer than Max_SDU

abbrev pub Short : ℕ → List StreamCall → Type 0
Short most [] = Unit {0}
Short most (accept octets ∷ earlier) = (length octets ≤ most) × Short most earlier
Short most (lay ∷ earlier) = Short most earlier

short_if : (most : ℕ) (test : Bool) (xs ys : List StreamCall) → Short most xs → Short most ys → Short most (cond test xs ys)
short_if most test xs ys all others = grind arith

short_lays : (most count : ℕ) (calls : List StreamCall) → Short most calls → Short most (lays count calls)
short_lays most zero calls all = all
short_lays most (suc count) calls all = short_lays most count calls all

short_before : (most : ℕ) (calls : List StreamCall) (event : ℕ) → Short most calls → Short most (before_event calls event)
short_before most [] event all = tt
short_before most (accept octets ∷ earlier) event all = short_before most earlier event all.1
short_before most (lay ∷ earlier) event all = search (short_if, short_before most earlier event all)

short_units : (most : ℕ) (calls : List StreamCall) → Short most calls → AllByRecursion (λ unit. length unit ≤ most) (accepted calls)
short_units most [] all = tt
short_units most (accept octets ∷ earlier) all = all_append (λ unit. length unit ≤ most) (accepted earlier) (octets ∷ []) (short_units most earlier all.1) (all.0, tt)
short_units most (lay ∷ earlier) all = short_units most earlier all

one_short : (most : ℕ) (units : List (List ℕ)) (i : ℕ) (unit : List ℕ) → AllByRecursion (λ unit. length unit ≤ most) units → slice_get units i ≡ Some unit → length unit ≤ most
one_short most units i unit all is = one_of (λ (u : List ℕ). length u ≤ most) units i unit all is

abbrev ShortIn : ℕ → List Step → Type 0
ShortIn bis own = Short (setup_of own).info.max_sdu (source_stream (setup_of own).info bis (source_calls own))

short_of : (airs : Airs) (bis : ℕ) (own : List Step) → Lawful airs own → ShortIn bis own
short_of airs bis [] legal = tt
short_of airs bis (this ∷ own) legal =
    grind (arith, maps_none, length, ltb-false, second_false, ltb, short_if, short_lays, (settled airs own legal.0), (short_of airs bis own legal.0))

pub slot_short : (airs : Airs) (bis : ℕ) (own : List Step) → Lawful airs own → (event slot : ℕ) (unit : List ℕ)
    → slots_of (setup_of own) (source_calls own) bis event slot ≡ Some unit → length unit ≤ (setup_of own).info.max_sdu
slot_short airs bis own legal event slot unit has =
    grind (arith, setup_of, source_calls, before_event, one_short, begun, short_units, short_before, short_of, legal)

-- ---- what the closes of a stay hand is struck

pub stay_struck : Below → (airs : Airs) → MeetAirs airs → (boxes s n bis : ℕ) (made : List Step) (tuning : BigSync) → Legal airs boxes made
    → IsOn airs s n made tuning → 1 ≤ bis → (setup_of (steps_of_source s made)).info.framing ≡ 0 → injected_since (is_tuned n) n made ≡ false
    → Struck (stay_on tuning bis) (slots_of (setup_of (steps_of_source s made)) (source_calls (steps_of_source s made)) bis)
    (calls_on airs made n tuning bis) (handed (stay_on tuning bis) (calls_on airs made n tuning bis))
stay_struck below airs meets boxes s n bis made tuning legal is least plain_source clean =
    let own : List Step = steps_of_source s made in
    let own_legal : Lawful airs own = lawful airs boxes s made legal in
    let settles : Settled own = settled airs own own_legal in
    let on : OnSource own tuning = on_source below.announcing airs boxes s n made tuning legal is in
    let bounds : Bounds tuning.info = subst Bounds (sym on.tuned.info) (bounds_in own settles on.started) in
    let plain : tuning.info.framing ≡ 0 = ap (λ (i : BigInfo). i.framing) on.tuned.info ∙ plain_source in
    below.struck (stay_on tuning bis) (slots_of (setup_of own) (source_calls own) bis) (calls_on airs made n tuning bis) bounds plain
    (λ event slot unit has. subst (λ (i : BigInfo). length unit ≤ i.max_sdu) (sym on.tuned.info) (slot_short airs bis own own_legal event slot unit has))
    (from_source (stay_on tuning bis) (slots_of (setup_of own) (source_calls own) bis) (calls_on airs made n tuning bis)
    (all_own below.announcing airs (setup_of own) (source_calls own) (air_at (stay_on tuning bis) (slots_of (setup_of own) (source_calls own) bis)) tuning boxes s n bis made
    (λ part its_legal started within. sends_own below airs meets (setup_of own) (source_calls own) tuning bis part its_legal started within on.tuned.info plain_source)
    legal (within_itself own) least is clean))

-- ---- what a sink handed up in its stay is what its ticks handed

lost_since : (gone : Bool) (event bis subevent : ℕ) (octets : List ℕ) (calls : List Call) → ticked_since (unless_lost gone (hear event bis subevent octets) calls) ≡ ticked_since calls
lost_since gone event bis subevent octets calls = grind arith

air_since : (airs : Airs) (own : List Step) (lose count : ℕ) (calls : List Call) → ticked_since (heard_on_air airs own lose count calls) ≡ ticked_since calls
air_since airs own lose zero calls = refl
air_since airs own lose (suc i) calls = search (lost_since, air_since airs own lose i calls)

more_since : (mine : Bool) (more calls : List Call) → ticked_since more ≡ ticked_since calls → ticked_since (cond mine more calls) ≡ ticked_since calls ++ []
more_since mine more calls same = grind (arith, append-nil)

if_since : (its : Bool) (last_open : Option ℕ) (calls : List Call)
    → ticked_since (cond its (ticked last_open calls) calls) ≡ ticked_since calls ++ cond its (handed_open calls last_open) []
if_since its last_open calls = grind (arith, append-nil)

own_if : (s : ℕ) (source : Option ℕ) (units : List Handed) → source ≡ Some s → cond (is_of s source) units [] ≡ units
own_if s source units is = ap (λ o. cond (is_of s o) units []) is ∙ ap (λ b. cond b units []) (eq-eqb s s refl)

closed_since_by : (airs : Airs) (s n : ℕ) (earlier : List Step) → source_of n earlier ≡ Some s
    → ticked_since (ticked_if (is_of (chosen_of earlier) (source_of n earlier)) (open_event (chosen_steps earlier)) (sink_calls airs n earlier))
    ≡ ticked_since (sink_calls airs n earlier) ++ cond (chosen_of earlier == s) (shown_with airs s n earlier) []
closed_since_by airs s n earlier its =
    cc (
      event_ticks (chosen_of earlier) s (λ t. open_event (steps_of_source t earlier)) (sink_calls airs n earlier) (source_of n earlier) its,
      if_since (chosen_of earlier == s) (open_event (steps_of_source s earlier)) (sink_calls airs n earlier),
      own_if s (source_of n earlier) (handed_open (sink_calls airs n earlier) (open_event (steps_of_source s earlier))) its,
    )

gone_since : (gone : Bool) (calls : List Call) (tuning : BigSync) → place (cond gone [] calls) ≡ Some tuning → ticked_since (cond gone [] calls) ≡ ticked_since calls ++ []
gone_since gone calls tuning is = grind (arith, none-some, append-nil)

put_since : (s n : ℕ) (put : Bool) (on tuning : BigSync) (chosen : ℕ) (calls : List Call) (source : Option ℕ) (units : List SinkUnit)
    → IsThere s tuning (cond put (tune on ∷ calls) calls) (cond put (Some chosen) source) → (IsThere s tuning calls source → put ≡ false → of_sink s n units ≡ ticked_since calls)
    → of_sink s n (cond put [] (units ++ [])) ≡ ticked_since (cond put (tune on ∷ calls) calls)
put_since s n put on tuning chosen calls source units is before = grind (arith, append-nil)

abbrev Since : Airs → ℕ → ℕ → List Step → Type 0
Since airs s n made = of_sink s n (handed_since (is_tuned n) airs made) ≡ ticked_since (sink_calls airs n made)

-- a step that puts the sink nowhere
still_since : (airs : Airs) (boxes s n : ℕ) (step : Step) (earlier : List Step) (tuning : BigSync) → Legal airs boxes earlier → s ≤ 1 → n ≤ 7 → ((on : BigSync) → PutsBy airs n step earlier on → ⊥)
    → IsOn airs s n (step ∷ earlier) tuning → (IsOn airs s n earlier tuning → Since airs s n earlier)
    → (source_of n earlier ≡ Some s → ticked_since (sink_calls airs n (step ∷ earlier)) ≡ ticked_since (sink_calls airs n earlier) ++ shown_by airs s n earlier step)
    → of_sink s n (handed_since (is_tuned n) airs earlier ++ handed_by airs earlier step) ≡ ticked_since (sink_calls airs n (step ∷ earlier))
still_since airs boxes s n step earlier tuning legal least within never is since grow =
    let begins_not : BeginsBy airs s n step earlier tuning → ⊥ = λ begins. never begins.puts.on begins.puts.by in
    grind (arith, on_before, handed_append, handed_since, is_tuned, handed_by, of_sink, since, sink_calls, step_shown, legal)

-- a step by which the receivers stay
stays_since : (airs : Airs) (boxes s n : ℕ) (step : Step) (earlier : List Step) (tuning : BigSync) → StaysBy airs n step earlier → handed_by airs earlier step ≡ []
    → IsOn airs s n (step ∷ earlier) tuning → (IsOn airs s n earlier tuning → Since airs s n earlier) → Since airs s n (step ∷ earlier)
stays_since airs boxes s n this earlier tuning stays none is since =
    grind (arith, sink_calls, none-some, rest_not, is_tuned, is_given, any_since, of_sink, cond, handed_since, handed_by, append-nil, since)

since_after : (airs : Airs) (boxes s n : ℕ) (step : Step) (earlier : List Step) (tuning : BigSync) → Legal airs boxes earlier → s ≤ 1 → n ≤ 7 → IsOn airs s n (step ∷ earlier) tuning
    → (IsOn airs s n earlier tuning → Since airs s n earlier) → Since airs s n (step ∷ earlier)
since_after airs boxes s n (Step.Tuned sink which) earlier tuning legal least within is since =
    put_since s n (sink == n) (big_sync_on (chosen_steps earlier) which) tuning (chosen_of earlier) (sink_calls airs n earlier) (source_of n earlier)
    (handed_since (is_tuned n) airs earlier) (record { place_is = is.place_is; source_is = is.source_is })
    (λ there put_not. since (assumption (rest_not (sink == n) false (any_since (is_tuned n) (is_given n) earlier) is.ungiven put_not)))
since_after airs boxes s n (Step.Air sink lose) earlier tuning legal least within is since =
    still_since airs boxes s n (Step.Air sink lose) earlier tuning legal least within (λ on by. by) is since
    (λ its. more_since (reaches sink n earlier) _ (sink_calls airs n earlier) (air_since airs (chosen_steps earlier) lose (positions_of (chosen_steps earlier)) (sink_calls airs n earlier)))
since_after airs boxes s n Step.End earlier tuning legal least within is since =
    still_since airs boxes s n Step.End earlier tuning legal least within (λ on by. by) is since
    (grind (arith, end_ticks, open_event, steps_of_source, sink_calls, source_of, own_if, handed_open, append-nil))
since_after airs boxes s n (Step.Announce sink) earlier tuning legal least within is since = elim (announced airs n sink earlier) [
  | inl stays ↦ stays_since airs boxes s n (Step.Announce sink) earlier tuning stays refl is since
  | inr goes ↦ grind (arith, none-some, of_sink, cond, handed_since, is_tuned)
]
since_after airs boxes s n (Step.Train sink time ext adv acad) earlier tuning legal least within is since =
    stays_since airs boxes s n (Step.Train sink time ext adv acad) earlier tuning (grind (arith, given_stays, last_not, is_tuned, any_since, is_given)) refl is since
since_after airs boxes s n step earlier tuning legal least within is since =
    search (
      still_since airs boxes s n step earlier tuning legal least within,
      gone_since,
      more_since,
      closed_since_by airs s n earlier,
      stays_since airs boxes s n step earlier tuning,
      plain_stays airs n step earlier,
    )

pub since : (airs : Airs) (boxes s n : ℕ) (made : List Step) (tuning : BigSync) → Legal airs boxes made → s ≤ 1 → n ≤ 7 → IsOn airs s n made tuning → Since airs s n made
since airs boxes s n [] tuning legal least within is = refl
since airs boxes s n (step ∷ earlier) tuning legal least within is =
    since_after airs boxes s n step earlier tuning legal.0 least within is (λ before. since airs boxes s n earlier tuning legal.0 least within before)

-- ---- the sinks and the sources that there are

pub record Numbers (s n : ℕ) : Type 0 where
  pub source_within : s ≤ 1
  pub sink_within : n ≤ 7

pub numbers : (airs : Airs) (boxes s n : ℕ) (made : List Step) (tuning : BigSync) → Legal airs boxes made → IsOn airs s n made tuning → Numbers s n
numbers airs boxes s n [] tuning legal is = absurd (none-some tuning is.place_is)
numbers airs boxes s n (step ∷ earlier) tuning legal is = elim (on_before airs s n step earlier tuning is) [
  | inl before ↦ numbers airs boxes s n earlier tuning legal.0 before
  | inr begins ↦ grind (arith, chosen_within, legal, eqb-true)
]

-- ---- the law

-- of any steps of which none was refused
pub stay_is_struck : Below → (airs : Airs) → MeetAirs airs → (boxes s n bis : ℕ) (made : List Step) (tuning : BigSync) → Legal airs boxes made
    → place (sink_calls airs n made) ≡ Some tuning → source_of n made ≡ Some s → Contains (streams_of tuning.which) bis → injected_since (is_tuned n) n made ≡ false
    → IsStayStruck airs made s n tuning bis
stay_is_struck below airs meets boxes s n bis made tuning lawful_steps there of_source taken clean =
    let is : IsOn airs s n made tuning = record { place_is = there; source_is = of_source; ungiven = none_given (is_tuned n) n made clean } in
    let are : Numbers s n = numbers airs boxes s n made tuning lawful_steps is in
    let ticks : of_stream bis (of_sink s n (handed_since (is_tuned n) airs made)) ≡ of_stream bis (ticked_since (sink_calls airs n made)) =
    ap (of_stream bis) (since airs boxes s n made tuning lawful_steps are.source_within are.sink_within is) in
    let on : OnSource (steps_of_source s made) tuning = on_source below.announcing airs boxes s n made tuning lawful_steps is in
    let tuned_framing : tuning.info.framing ≡ (setup_of (steps_of_source s made)).info.framing = ap (λ (i : BigInfo). i.framing) on.tuned.info in
    record {
      of_source = search (taken_within, setup_of, steps_of_source, first_next, stay_within);
      unframed = λ plain.
          subst (λ units. Struck (stay_on tuning bis) (slots_of (setup_of (steps_of_source s made)) (source_calls (steps_of_source s made)) bis)
          (calls_on airs made n tuning bis) units)
          (sym (ticks ∙ below.hands tuning (sink_calls airs n made) bis (tuned_framing ∙ plain) there taken))
          (stay_struck below airs meets boxes s n bis made tuning lawful_steps is (member_is tuning.which bis taken).1 plain clean);
      framed = λ is_framed. framed_law below airs meets boxes s n bis made tuning lawful_steps are.source_within is is_framed taken clean ticks;
    }

pub units_law_holds : Below → (starts : List Account) → UnitsLaw starts
units_law_holds below starts airs meets lines accepted s n bis tuning there of_source taken clean =
    stay_is_struck below airs meets (length starts) s n bis (steps_of airs lines) tuning (legal below.in_range airs starts lines accepted) there of_source
    taken clean
