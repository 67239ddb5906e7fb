-- What holds of a step that is refused by no reason.
use Rattle.scenario_history.proofs.Prelude.{ℕ, ◌≡◌, Bool, true, false, List, Option, None, Some, refl, sym, or_parts, none-some, Step, chosen_steps, is_over, stage_of, version_of, is_misplaced, is_out_of_order, is_out_of_phase, own_refusal, phase_refusal, refusal_of, sink_refusal, source_refusal, twin_refusal}
use Rattle.std.specs.Option.{option_map, option_or}
use Rattle.transcript_text.specs.declared.refusal.Refusal.{Refusal}
use Rattle.source_machine.specs.Airs.{Airs}
use Rattle.sink_history.specs.Refusals.{refuse_if}

pub neither : {A : Type 0} (a b : Option A) → option_or a b ≡ None → (a ≡ None) × (b ≡ None)
neither None b none = (refl, none)
neither (Some x) b none = absurd (none-some x (sym none))

pub fails_not : (test : Bool) (reason : Refusal) → refuse_if test reason ≡ None → test ≡ false
fails_not true reason none = absurd (none-some reason (sym none))
fails_not false reason none = refl

pub maps_none : {A B : Type 0} (f : A → B) (o : Option A) → option_map f o ≡ None → o ≡ None
maps_none f None none = refl
maps_none f (Some x) none = absurd (none-some (f x) (sym none))

pub record Permitted (airs : Airs) (boxes : ℕ) (earlier : List Step) (step : Step) : Type 0 where
  pub goes_on : is_over earlier ≡ false
  pub in_place : is_misplaced (stage_of earlier) step ≡ false
  pub in_phase : is_out_of_phase (chosen_steps earlier) step ≡ false
  pub by_sinks : sink_refusal boxes earlier step ≡ None
  pub by_source : source_refusal airs (version_of earlier) (chosen_steps earlier) step ≡ None
  pub by_twin : twin_refusal earlier step ≡ None

pub permitted : (airs : Airs) (boxes : ℕ) (earlier : List Step) (step : Step) → refusal_of airs boxes earlier step ≡ None
    → Permitted airs boxes earlier step
permitted airs boxes earlier step none =
    let over = neither (refuse_if (is_over earlier) _) (phase_refusal airs boxes earlier step) none in
    let order = neither (refuse_if (is_out_of_order earlier step) _) (own_refusal airs boxes earlier step) over.1 in
    let sinks = neither (sink_refusal boxes earlier step)
    (option_or (source_refusal airs (version_of earlier) (chosen_steps earlier) step) (twin_refusal earlier step)) order.1 in
    let sources = neither (source_refusal airs (version_of earlier) (chosen_steps earlier) step) (twin_refusal earlier step) sinks.1 in
    let places = or_parts (is_misplaced (stage_of earlier) step) (is_out_of_phase (chosen_steps earlier) step)
    (fails_not (is_out_of_order earlier step) _ order.0) in
    record {
      goes_on = fails_not (is_over earlier) _ over.0;
      in_place = places.0;
      in_phase = places.1;
      by_sinks = sinks.0;
      by_source = sources.0;
      by_twin = sources.1;
    }
