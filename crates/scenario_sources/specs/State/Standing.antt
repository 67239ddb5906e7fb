-- What the sources of a scenario keep, and the steps that it stands for, the newest first.
use Rattle.std.specs.Prelude.{ℕ, ◌≡◌, ◌<◌, List, slice_get}
use Rattle.scenario_text.specs.declared.step.Step.{Step}
use Rattle.scenario_history.specs.Steps.{chosen_of, steps_of_source}
use Rattle.scenario_sources.specs.declared.phase.Phase.{Phase}
use Rattle.scenario_sources.specs.declared.sources.Sources.{Sources}
use Rattle.scenario_sources.specs.State.Phases.{PhaseAt}

abbrev pub PhasesAre : List Step → List Phase → Type 0
PhasesAre steps phases = (s : ℕ) → s < 2 → PhaseAt (steps_of_source s steps) (slice_get phases s)

-- the sources are as the steps leave them
pub record SourcesStand (steps : List Step) (sources : Sources) : Type 0 where
  pub chosen : sources.chosen ≡ chosen_of steps
  pub phases : PhasesAre steps sources.phases.items
