-- The events of a source that a sink closes rise, over all its stays with the source.
use Rattle.scenario_laws.proofs.Known.Sources.{ℕ, zero, suc, ◌≡◌, ◌≢◌, ◌<◌, ◌≤◌, ◌+◌, ◌==◌, cond, not, Bool, true, false, List, [], ◌∷◌, ◌++◌, map, Option, None, Some, refl, sym, ap, subst, arith, inl, inr, IsStrictlyIncreasing, cases_Bool, eq-eqb, eqb-true, eqb-false, false≢true, leb-true, or_parts, none-some, Call, tune, hear, BigSync, Step, chosen_of, chosen_steps, is_over, steps_of_source, event_back, is_sending, open_event, performed, Airs, heard_on_air, is_of, reaches, sink_calls, source_of, positions_of, ticked, unless_lost, big_sync_on, Closed, closed_by, closed_since, any_since, given_since_made, is_given, is_made, is_tuned, place, closes, closed_if, Legal, Permitted, permitted, StaysBy, announced, given_stays, plain_stays, next_in, next_rises, air_place, end_ticks, event_ticks, is_its, map-append}
use Rattle.scenario_laws.proofs.Announced.{Announcing, as_by_hand}
use Rattle.scenario_laws.proofs.Stays.{IsOn, begins_calls, begins_next, last_not, on_before, rest_not}
use Rattle.delegator_machine.specs.Groups as machine

-- ---- numbers that rise between two bounds

-- the numbers rise, from `low` on and all below `high`
abbrev pub Climb : ℕ → List ℕ → ℕ → Type 0
Climb low [] high = low ≤ high
Climb low (x ∷ xs) high = (low ≤ x) × Climb (x + 1) xs high

pub climb_from : (low from : ℕ) (xs : List ℕ) (high : ℕ) → low ≤ from → Climb from xs high → Climb low xs high
climb_from low from [] high least climb = omega (arith, least, climb)
climb_from low from (x ∷ xs) high least climb = (omega (arith, least, climb.0), climb.1)

pub climb_on : (low : ℕ) (xs : List ℕ) (middle : ℕ) (ys : List ℕ) (high : ℕ) → Climb low xs middle → Climb middle ys high → Climb low (xs ++ ys) high
climb_on low [] middle ys high first rest = climb_from low middle ys high first rest
climb_on low (x ∷ xs) middle ys high first rest = (first.0, climb_on (x + 1) xs middle ys high first.1 rest)

pub climb_up : (low : ℕ) (xs : List ℕ) (high : ℕ) → Climb low xs high → low ≤ high
climb_up low [] high climb = climb
climb_up low (x ∷ xs) high climb = omega (arith, climb.0, climb_up (x + 1) xs high climb.1)

pub climbs : (low : ℕ) (xs : List ℕ) (high : ℕ) → Climb low xs high → IsStrictlyIncreasing xs
climbs low [] high climb k below = absurd (omega (arith, below))
climbs low (x ∷ []) high climb k below = absurd (omega (arith, below))
climbs low (x ∷ y ∷ xs) high climb zero below = let next : x + 1 ≤ y = climb.1.0 in omega (arith, next)
climbs low (x ∷ y ∷ xs) high climb (suc k) below =
    let next : suc k + 1 ≡ suc (k + 1) = omega arith in
    rw next (climbs (x + 1) (y ∷ xs) high climb.1 k (omega (arith, below)))

-- ---- the open event of a sink

abbrev pub event_of : Closed → ℕ
event_of closed = closed.event

-- the stay of a sink with a source, where it is of the source
abbrev pub stay_if : Bool → List Call → Option BigSync
stay_if mine calls = cond mine (place calls) None

-- the open event of the stay, or the next event of the source
abbrev pub prefix_of : Option BigSync → List Call → ℕ → ℕ
prefix_of None calls next = next
prefix_of (Some tuning) calls next = tuning.first + closes tuning calls

abbrev pub prefix : Bool → List Call → ℕ → ℕ
prefix mine calls next = prefix_of (stay_if mine calls) calls next

-- the events that a step closes lie between the open events before it and after it, and those up to the source's next one
pub record Moves (mine : Bool) (calls : List Call) (next : ℕ) (closed : List Closed) (mine' : Bool) (calls' : List Call) (next' : ℕ) : Type 0 where
  pub climbs_on : Climb (prefix mine calls next) (map event_of closed) (prefix mine' calls' next')
  pub within : prefix mine' calls' next' ≤ next'

gone_moves : (s : ℕ) (gone : Bool) (calls : List Call) (source : Option ℕ) (next next' : ℕ) → next ≤ next' → prefix (is_of s source) calls next ≤ next
    → Moves (is_of s source) calls next [] (is_of s (cond gone None source)) (cond gone [] calls) next'
gone_moves s gone calls source next next' more within = grind arith

put_moves : (s : ℕ) (put : Bool) (on : BigSync) (chosen : ℕ) (calls : List Call) (source : Option ℕ) (next next' : ℕ) → next ≤ next' → ((chosen == s) ≡ true → on.first ≡ next)
    → prefix (is_of s source) calls next ≤ next
    → Moves (is_of s source) calls next [] (is_of s (cond put (Some chosen) source)) (cond put (tune on ∷ calls) calls) next'
put_moves s put on chosen calls source next next' more is within = grind arith

more_moves : (mine hit : Bool) (more calls : List Call) (next next' : ℕ) → next ≤ next' → place more ≡ place calls → ((tuning : BigSync) → closes tuning more ≡ closes tuning calls)
    → prefix mine calls next ≤ next → Moves mine calls next [] mine (cond hit more calls) next'
more_moves mine hit more calls next next' later there same within = grind arith

lost_closes : (gone : Bool) (event bis subevent : ℕ) (octets : List ℕ) (calls : List Call) (tuning : BigSync)
    → closes tuning (unless_lost gone (hear event bis subevent octets) calls) ≡ closes tuning calls
lost_closes gone event bis subevent octets calls tuning = grind arith

air_closes : (airs : Airs) (own : List Step) (lose count : ℕ) (calls : List Call) (tuning : BigSync) → closes tuning (heard_on_air airs own lose count calls) ≡ closes tuning calls
air_closes airs own lose zero calls tuning = refl
air_closes airs own lose (suc i) calls tuning = search (lost_closes, air_closes airs own lose i calls tuning)

-- a close of an event of the source, or of another
close_moves : (mine its : Bool) (last_open : Option ℕ) (calls calls' : List Call) (next next' : ℕ) → ((event : ℕ) → last_open ≡ Some event → event < next) → next ≤ next'
    → prefix mine calls next ≤ next → (mine ≡ true → calls' ≡ cond its (ticked last_open calls) calls)
    → Moves mine calls next (cond its (closed_if mine calls last_open) []) mine calls' next'
close_moves mine its last_open calls calls' next next' past more within is = grind (arith, leb-true)

-- the open event of a source is before its next one
pub open_before : (own : List Step) (event : ℕ) → open_event own ≡ Some event → event < next_in own
open_before own event is = grind (arith, not, is_sending, is_over, performed, event_back, or_parts, eqb-false)

-- ---- step by step

-- the sink is of this source
abbrev pub mine_in : ℕ → ℕ → List Step → Bool
mine_in s n made = is_of s (source_of n made)

abbrev pub its_prefix : Airs → ℕ → ℕ → List Step → ℕ
its_prefix airs s n made = prefix (mine_in s n made) (sink_calls airs n made) (next_in (steps_of_source s made))

stays_move : (airs : Airs) (s n : ℕ) (step : Step) (earlier : List Step) (next' : ℕ) → StaysBy airs n step earlier → next_in (steps_of_source s earlier) ≤ next'
    → its_prefix airs s n earlier ≤ next_in (steps_of_source s earlier)
    → Moves (mine_in s n earlier) (sink_calls airs n earlier) (next_in (steps_of_source s earlier)) [] (mine_in s n (step ∷ earlier)) (sink_calls airs n (step ∷ earlier)) next'
stays_move airs s n this earlier next' stays more within = grind (arith, sink_calls, next_in, steps_of_source, is_of)

announced_moves : Announcing → (airs : Airs) (boxes s n sink : ℕ) (earlier : List Step) (next' : ℕ) → Legal airs boxes earlier → Permitted airs boxes earlier (Step.Announce sink)
    → next_in (steps_of_source s earlier) ≤ next' → its_prefix airs s n earlier ≤ next_in (steps_of_source s earlier)
    → Moves (mine_in s n earlier) (sink_calls airs n earlier) (next_in (steps_of_source s earlier)) []
    (mine_in s n (Step.Announce sink ∷ earlier)) (sink_calls airs n (Step.Announce sink ∷ earlier)) next'
announced_moves laws airs boxes s n sink earlier next' legal permits more within = elim (announced airs n sink earlier) [
  | inl stays ↦ stays_move airs s n (Step.Announce sink) earlier next' stays more within
  | inr goes ↦ elim goes [
    | inl follows ↦ grind (arith, sink_calls, next_in, steps_of_source)
    | inr put ↦
        let on : BigSync = machine.by_numbers put.big_sync in
        let first_is : on.first ≡ next_in (chosen_steps earlier) = ap (λ (t : BigSync). t.first) (as_by_hand laws airs boxes n sink earlier put.big_sync legal permits put.brings).0 in
        subst (λ calls. Moves (mine_in s n earlier) (sink_calls airs n earlier) (next_in (steps_of_source s earlier)) [] (mine_in s n (Step.Announce sink ∷ earlier)) calls next') (sym put.calls_is)
        (subst (λ source. Moves (mine_in s n earlier) (sink_calls airs n earlier) (next_in (steps_of_source s earlier)) [] (is_of s source) (tune on ∷ sink_calls airs n earlier) next')
        (sym put.source_is) (grind (arith, chosen_of, sink_calls, next_in, steps_of_source, eqb-true)))
  ]
]

event_moves : (airs : Airs) (s n : ℕ) (earlier : List Step) (next' : ℕ) → next_in (steps_of_source s earlier) ≤ next' → its_prefix airs s n earlier ≤ next_in (steps_of_source s earlier)
    → Moves (mine_in s n earlier) (sink_calls airs n earlier) (next_in (steps_of_source s earlier)) (closed_by airs s n earlier Step.Event)
    (mine_in s n earlier) (sink_calls airs n (Step.Event ∷ earlier)) next'
event_moves airs s n earlier next' more within =
    close_moves (mine_in s n earlier) (chosen_of earlier == s) (open_event (steps_of_source s earlier)) (sink_calls airs n earlier) _ (next_in (steps_of_source s earlier)) next'
    (open_before (steps_of_source s earlier)) more within
    (λ mine. event_ticks (chosen_of earlier) s (λ t. open_event (steps_of_source t earlier)) (sink_calls airs n earlier) (source_of n earlier) (is_its s (source_of n earlier) mine))

pub moves_by : Announcing → (airs : Airs) (boxes s n : ℕ) (step : Step) (earlier : List Step) (next' : ℕ) → Legal airs boxes earlier → Permitted airs boxes earlier step
    → is_given n step ≡ false → s ≤ 1 → next_in (steps_of_source s earlier) ≤ next' → its_prefix airs s n earlier ≤ next_in (steps_of_source s earlier)
    → Moves (mine_in s n earlier) (sink_calls airs n earlier) (next_in (steps_of_source s earlier)) (closed_by airs s n earlier step)
    (mine_in s n (step ∷ earlier)) (sink_calls airs n (step ∷ earlier)) next'
moves_by laws airs boxes s n (Step.Tuned sink which) earlier next' legal permits ungiven least more within =
    put_moves s (sink == n) (big_sync_on (chosen_steps earlier) which) (chosen_of earlier) (sink_calls airs n earlier) (source_of n earlier) (next_in (steps_of_source s earlier)) next' more
    (λ same. ap (λ t. next_in (steps_of_source t earlier)) (eqb-true (chosen_of earlier) s same)) within
moves_by laws airs boxes s n (Step.Air sink lose) earlier next' legal permits ungiven least more within =
    more_moves (mine_in s n earlier) (reaches sink n earlier) (heard_on_air airs (chosen_steps earlier) lose (positions_of (chosen_steps earlier)) (sink_calls airs n earlier))
    (sink_calls airs n earlier) (next_in (steps_of_source s earlier)) next' more
    (air_place airs (chosen_steps earlier) lose (positions_of (chosen_steps earlier)) (sink_calls airs n earlier))
    (air_closes airs (chosen_steps earlier) lose (positions_of (chosen_steps earlier)) (sink_calls airs n earlier)) within
moves_by laws airs boxes s n Step.End earlier next' legal permits ungiven least more within =
    close_moves (mine_in s n earlier) true (open_event (steps_of_source s earlier)) (sink_calls airs n earlier) _ (next_in (steps_of_source s earlier)) next'
    (open_before (steps_of_source s earlier)) more within
    (λ mine. end_ticks s (λ t. open_event (steps_of_source t earlier)) (sink_calls airs n earlier) (source_of n earlier) least (is_its s (source_of n earlier) mine))
moves_by laws airs boxes s n (Step.Announce sink) earlier next' legal permits ungiven least more within = announced_moves laws airs boxes s n sink earlier next' legal permits more within
moves_by laws airs boxes s n this earlier next' legal permits ungiven least more within =
    search (gone_moves, more_moves, event_moves airs s n earlier next' more within, stays_move, given_stays, plain_stays)

-- ---- all events that a sink closed

pub record Closing (airs : Airs) (s n : ℕ) (made : List Step) : Type 0 where
  pub rise : Climb 0 (map event_of (closed_since airs s n made)) (its_prefix airs s n made)
  pub within : its_prefix airs s n made ≤ next_in (steps_of_source s made)

pub moved : Announcing → (airs : Airs) (boxes s n : ℕ) (step : Step) (earlier : List Step) → Legal airs boxes (step ∷ earlier) → is_given n step ≡ false → s ≤ 1
    → its_prefix airs s n earlier ≤ next_in (steps_of_source s earlier)
    → Moves (mine_in s n earlier) (sink_calls airs n earlier) (next_in (steps_of_source s earlier)) (closed_by airs s n earlier step)
    (mine_in s n (step ∷ earlier)) (sink_calls airs n (step ∷ earlier)) (next_in (steps_of_source s (step ∷ earlier)))
moved laws airs boxes s n this earlier legal ungiven least within = search (moves_by, next_in, permitted, next_rises)

-- a sink that was just made
pub made_nothing : (airs : Airs) (n : ℕ) (step : Step) (earlier : List Step) → is_made n earlier step ≡ true → sink_calls airs n (step ∷ earlier) ≡ []
made_nothing airs n this earlier made = grind (arith, false≢true)

closing_on : Announcing → (airs : Airs) (boxes s n : ℕ) (step : Step) (earlier : List Step) → Legal airs boxes (step ∷ earlier) → is_given n step ≡ false → s ≤ 1 → is_made n earlier step ≡ false
    → Closing airs s n earlier → Closing airs s n (step ∷ earlier)
closing_on laws airs boxes s n step earlier legal ungiven least on before =
    let now = moved laws airs boxes s n step earlier legal ungiven least before.within in
    record { rise = grind (arith, is_made, closed_since, closed_by, false≢true, map-append, climb_on); within = now.within }

pub closing : Announcing → (airs : Airs) (boxes s n : ℕ) (made : List Step) → Legal airs boxes made → given_since_made n made ≡ false → s ≤ 1 → Closing airs s n made
closing laws airs boxes s n [] legal ungiven least = record { rise = omega arith; within = omega arith }
closing laws airs boxes s n (step ∷ earlier) legal ungiven least = elim (cases_Bool (is_made n earlier step)) [
  | inl again ↦ grind (arith, next_in, steps_of_source, sink_calls, made_nothing, map, cond, closed_since, closed_by)
  | inr on ↦
      closing_on laws airs boxes s n step earlier legal (last_not (is_made n earlier step) (is_given n step) (given_since_made n earlier) ungiven) least on
      (closing laws airs boxes s n earlier legal.0 (rest_not (is_made n earlier step) (is_given n step) (given_since_made n earlier) ungiven on) least)
]

pub closes_rise : Announcing → (airs : Airs) (boxes s n : ℕ) (made : List Step) → Legal airs boxes made → given_since_made n made ≡ false → s ≤ 1
    → IsStrictlyIncreasing (map event_of (closed_since airs s n made))
closes_rise laws airs boxes s n made legal ungiven least =
    climbs 0 (map event_of (closed_since airs s n made)) (its_prefix airs s n made) (closing laws airs boxes s n made legal ungiven least).rise

-- ---- the open event of one stay

pub stay_prefix : (airs : Airs) (s n : ℕ) (made : List Step) (tuning : BigSync) → IsOn airs s n made tuning → its_prefix airs s n made ≡ tuning.first + closes tuning (sink_calls airs n made)
stay_prefix airs s n made tuning is = cc (is.source_is, eq-eqb s s refl, is.place_is)

-- the open event of a stay is at most the source's next one
pub stay_within : Announcing → (airs : Airs) (boxes s n : ℕ) (made : List Step) (tuning : BigSync) → Legal airs boxes made → s ≤ 1 → IsOn airs s n made tuning
    → tuning.first + closes tuning (sink_calls airs n made) ≤ next_in (steps_of_source s made)
stay_within laws airs boxes s n [] tuning legal least is = absurd (none-some tuning is.place_is)
stay_within laws airs boxes s n (step ∷ earlier) tuning legal least is = elim (on_before airs s n step earlier tuning is) [
  | inl before ↦
      let within : its_prefix airs s n earlier ≤ next_in (steps_of_source s earlier) =
      omega (arith, stay_prefix airs s n earlier tuning before, stay_within laws airs boxes s n earlier tuning legal.0 least before) in
      let now = moved laws airs boxes s n step earlier legal (last_not (is_tuned n earlier step) (is_given n step) (any_since (is_tuned n) (is_given n) earlier) is.ungiven) least within in
      omega (arith, stay_prefix airs s n (step ∷ earlier) tuning is, now.within)
  | inr begins ↦
      let none : closes tuning (sink_calls airs n (step ∷ earlier)) ≡ 0 = ap (closes tuning) (begins_calls airs s n step earlier tuning begins) in
      let first : tuning.first ≡ next_in (steps_of_source s earlier) = begins_next laws airs boxes s n step earlier tuning legal.0 (permitted airs boxes earlier step legal.1) begins in
      omega (arith, none, first, next_rises airs boxes s earlier step legal)
]
