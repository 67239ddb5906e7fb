-- Where the steps of a source stand.
use Rattle.scenario_history.proofs.Prelude.{ℕ, ◌≡◌, ◌∙◌, Bool, true, false, cond, List, [], ◌∷◌, refl, ap, Step, is_of_source, stage_after, stage_of, steps_of_source}
use Rattle.scenario_text.specs.declared.step.Step.TheVariants as steps

-- the scenario of a source's steps stands where that of all steps does
stage_if : (own : List Step) (step : Step) (is_its : Bool) → stage_of (step ∷ own) ≡ stage_of own → stage_of (cond is_its (step ∷ own) own) ≡ stage_of own
stage_if own this true same = same
stage_if own this false same = refl

stage_after_step : (s : ℕ) (earlier : List Step) (step : Step) → stage_of (steps_of_source s (step ∷ earlier)) ≡ stage_after step (stage_of (steps_of_source s earlier))
stage_after_step s earlier (steps.Scenario version) = refl
stage_after_step s earlier steps.End = refl
stage_after_step s earlier step = stage_if (steps_of_source s earlier) step (is_of_source s earlier step) refl

pub stage_same : (s : ℕ) (made : List Step) → stage_of (steps_of_source s made) ≡ stage_of made
stage_same s [] = refl
stage_same s (step ∷ earlier) = stage_after_step s earlier step ∙ ap (stage_after step) (stage_same s earlier)
