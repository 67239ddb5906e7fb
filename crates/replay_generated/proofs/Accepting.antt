-- No step of a generated scenario is refused, where there are two boxes.
use Rattle.replay_generated.proofs.Prelude.{◌≡◌, ℕ, zero, suc, ◌+◌, ◌≤◌, Bool, false, nat_eq, List, [], ◌∷◌, refl, arith, None, ⊤, nat_le, lt-leb, airs_of, Call, give, event, events, stream_calls, NoOutlet, Step, drawn, next_state, unit_of, version_of, refusal_of, refuse_if}
use Rattle.std.proofs.Math.Numerals.{suc-eq-add-one}
use Rattle.big_info.specs.Rows.{first_fault}
use Rattle.bcast_base.specs.Encoding as encoding
use Rattle.scenario_text.specs.declared.step.Step.TheVariants as kinds
use Rattle.scenario_history.specs.Refusals.{has_beyond}
use Rattle.scenario_history.specs.Source.{with_source_call}
use Rattle.replay_generated.proofs.Standing.{At, IsPlain, air_fine, air_plain, at_next, end_fine, event_fine, event_plain, info_said, unit_fine, unit_plain, version_is}
use Rattle.replay_generated.proofs.Waiting.{Near, Sent, accept_near, event_given, event_near, some_events, unit_given}

-- ---- the steps

abbrev pub event_steps : ℕ → ℕ → ℕ → List Step
event_steps state x zero = kinds.End ∷ []
event_steps state x (suc count) =
    let first = next_state state in
    let second = next_state first in
    kinds.Unit 1 None (unit_of (x + 1)) ∷ kinds.Unit 2 None (unit_of (x + 1)) ∷ kinds.Event ∷ kinds.Air 0 (drawn first) ∷ kinds.Air 1 (drawn second)
    ∷ event_steps second (x + 1) count

abbrev pub scenario_step : Step
scenario_step = kinds.Scenario 1

abbrev pub group_step : Step
group_step = kinds.Group 0 20000 40000 8 10000 100 100 2 1 3 2 1 600 1800 1

abbrev pub sink_step : ℕ → Step
sink_step n = kinds.Sink n 1 1 None

abbrev pub tuned_step : ℕ → ℕ → Step
tuned_step n which = kinds.Tuned n which

-- the steps behind those of the sinks
abbrev pub later_steps : ℕ → ℕ → List Step
later_steps seed events =
    kinds.Start 0 ∷ tuned_step 0 1 ∷ tuned_step 1 2 ∷ kinds.Unit 1 None (unit_of 0) ∷ kinds.Unit 2 None (unit_of 0) ∷ event_steps seed 0 events

abbrev pub made_steps : ℕ → ℕ → List Step
made_steps seed events = scenario_step ∷ group_step ∷ sink_step 0 ∷ sink_step 1 ∷ later_steps seed events

-- none of these steps is refused after those made before, the newest of which is the first, and all are of version 1
abbrev pub AllFine : ℕ → List Step → List Step → Type 0
AllFine boxes made [] = ⊤
AllFine boxes made (next ∷ later) = ((version_of made ≡ 1) × (refusal_of airs_of boxes made next ≡ None)) × AllFine boxes (next ∷ made) later

-- a step that isn't refused, and then what holds of the others
module _ (boxes : ℕ) {made : List Step} {calls : List Call} (a : At made calls) where
  then_fine : {B : Type 0} (next : Step) → IsPlain next → refusal_of airs_of boxes made next ≡ None
      → (At (next ∷ made) (with_source_call next calls) → B) → ((version_of made ≡ 1) × (refusal_of airs_of boxes made next ≡ None)) × B
  then_fine next says none more = ((version_is boxes made calls a, none), more (at_next made calls next a says))

  then_unit : {B : Type 0} (bis x : ℕ) → 1 ≤ bis → bis ≤ 2 → Near 1 (stream_calls info_said bis calls)
      → (At (kinds.Unit bis None (unit_of x) ∷ made) (give bis None (unit_of x) ∷ calls) → B)
      → ((version_of made ≡ 1) × (refusal_of airs_of boxes made (kinds.Unit bis None (unit_of x)) ≡ None)) × B
  then_unit bis x least most near more =
      then_fine (kinds.Unit bis None (unit_of x)) (unit_plain bis None (unit_of x))
      (unit_fine boxes made calls a bis (unit_of x) (unit_given bis calls x least most near)) more

events_fine : (boxes : ℕ) (made : List Step) (calls : List Call) (state x count : ℕ) → At made calls → Sent calls x → x + count ≤ 100000
    → AllFine boxes made (event_steps state x count)
events_fine boxes made calls state x zero a sent most = ((version_is boxes made calls a, end_fine boxes made calls a), tt)
events_fine boxes made calls state x (suc count) a sent most =
    let lose = drawn (next_state state) in
    let other = drawn (next_state (next_state state)) in
    let calls2 = give 2 None (unit_of (x + 1)) ∷ give 1 None (unit_of (x + 1)) ∷ calls in
    let few : events calls ≤ 100000 = omega (arith, sent.performed, most) in
    let sent5 : Sent (event ∷ calls2) (x + 1) = grind (
      arith,
      suc-eq-add-one,
      event_near,
      nat_eq,
      events,
      stream_calls,
      info_said,
      accept_near,
      unit_of,
    ) in
    then_unit boxes a 1 (x + 1) (omega arith) (omega arith) sent.first λ a1.
    then_unit boxes a1 2 (x + 1) (omega arith) (omega arith) sent.second λ a2.
    then_fine boxes a2 kinds.Event event_plain (event_fine boxes _ _ a2 (event_given calls2 few)) λ a3.
    then_fine boxes a3 (kinds.Air 0 lose) (air_plain 0 lose) (air_fine boxes _ _ a3 0 lose a3.first_box (some_events _)) λ a4.
    then_fine boxes a4 (kinds.Air 1 other) (air_plain 1 other) (air_fine boxes _ _ a4 1 other a4.second_box (some_events _)) λ a5.
    events_fine boxes
    (kinds.Air 1 other ∷ kinds.Air 0 lose ∷ kinds.Event ∷ kinds.Unit 2 None (unit_of (x + 1)) ∷ kinds.Unit 1 None (unit_of (x + 1)) ∷ made)
    (event ∷ calls2) (next_state (next_state state)) (x + 1) count a5 sent5 (omega (arith, most))

-- ---- the first lines

abbrev head_steps : List Step
head_steps = group_step ∷ scenario_step ∷ []

-- the steps of the sinks, and of those before them
abbrev sink_steps : List Step
sink_steps = sink_step 1 ∷ sink_step 0 ∷ head_steps

abbrev tuned_steps : List Step
tuned_steps = tuned_step 1 2 ∷ tuned_step 0 1 ∷ kinds.Start 0 ∷ sink_steps

start_fine : (boxes : ℕ) (later : List Step) → AllFine boxes tuned_steps later
    → AllFine boxes sink_steps (kinds.Start 0 ∷ tuned_step 0 1 ∷ tuned_step 1 2 ∷ later)
unfolding first_fault encoding.number has_beyond
start_fine boxes later fine = ((refl, refl), ((refl, refl), ((refl, refl), fine)))

-- a box is left for the sink, or none
pub first_sink : (boxes : ℕ) (b : Bool) → nat_le boxes 0 ≡ b → refusal_of airs_of boxes (group_step ∷ scenario_step ∷ []) (sink_step 0) ≡ refuse_if b NoOutlet
first_sink boxes b e = grind arith

pub second_sink : (boxes : ℕ) (b : Bool) → nat_le boxes 1 ≡ b → refusal_of airs_of boxes (sink_step 0 ∷ group_step ∷ scenario_step ∷ []) (sink_step 1) ≡ refuse_if b NoOutlet
second_sink boxes b e = grind arith

pub all_fine : (boxes seed events : ℕ) → 2 ≤ boxes → events ≤ 100000 → AllFine boxes [] (made_steps seed events)
all_fine boxes seed events two most =
    let at_start : At tuned_steps [] = grind arith in
    let sent : Sent (give 2 None (unit_of 0) ∷ give 1 None (unit_of 0) ∷ []) 0 = record
    { performed = refl; first = omega arith; second = omega arith } in
    let units : AllFine boxes tuned_steps (kinds.Unit 1 None (unit_of 0) ∷ kinds.Unit 2 None (unit_of 0) ∷ event_steps seed 0 events) =
    then_unit boxes at_start 1 0 (omega arith) (omega arith) (omega arith) λ a1.
    then_unit boxes a1 2 0 (omega arith) (omega arith) (omega arith) λ a2.
    events_fine boxes (kinds.Unit 2 None (unit_of 0) ∷ kinds.Unit 1 None (unit_of 0) ∷ tuned_steps)
    (give 2 None (unit_of 0) ∷ give 1 None (unit_of 0) ∷ [])
    seed 0 events a2 sent (omega (arith, most)) in
    let first = first_sink boxes false (lt-leb boxes 0 (omega (arith, two))) in
    let second = second_sink boxes false (lt-leb boxes 1 (omega (arith, two))) in
    let later = kinds.Unit 1 None (unit_of 0) ∷ kinds.Unit 2 None (unit_of 0) ∷ event_steps seed 0 events in
    ((refl, refl), ((refl, refl), ((refl, first), ((refl, second), start_fine boxes later units))))
