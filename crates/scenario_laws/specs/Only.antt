-- The steps that are left of a scenario where the other sinks and what is said of the other source are left out. The scenario
-- language is this project's own. Lists of steps have the newest first.
use Rattle.std.specs.Prelude.{ℕ, ◌==◌, ◌&&◌, ◌||◌, not, Bool, true, false, List, [], ◌∷◌, Option, None, Some, if◌then◌else◌}
use Rattle.scenario_text.specs.declared.step.Step.{Step}
use Rattle.scenario_text.specs.declared.step.Step.TheVariants.{Sink, Source}
use Rattle.sink_history.specs.History.{named_by}
use Rattle.scenario_history.specs.Sinks.{is_of as is_sink}
use Rattle.scenario_history.specs.Steps.{chosen_of, is_common, is_source_line}

abbrev pub sink_in : Step → Option ℕ
sink_in (Sink sink streams slots mtu) = Some sink
sink_in step = named_by step

abbrev pub is_other : ℕ → Option ℕ → Bool
is_other n None = false
is_other n (Some sink) = not (sink == n)

abbrev pub chooses : Step → Bool
chooses (Source source) = true
chooses _ = false

-- the step after these is kept for sink `n` and source `s`: `scenario`, `end` and every `source` step; a source line where `s` is
-- chosen and no other sink is named; of all other steps those that name the sink
abbrev pub is_kept : ℕ → ℕ → List Step → Step → Bool
is_kept s n earlier step = if is_common step || chooses step then true
    else (if is_source_line step then (chosen_of earlier == s) && not (is_other n (sink_in step)) else is_sink n (sink_in step))

abbrev pub only : ℕ → ℕ → List Step → List Step
only s n [] = []
only s n (step ∷ earlier) = if is_kept s n earlier step then step ∷ only s n earlier else only s n earlier
