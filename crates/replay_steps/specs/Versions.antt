-- The versions and the stages of a scenario, whose language is this project's own.
use Rattle.std.specs.Prelude.{ℕ}
use Rattle.scenario_history.specs.Steps as history
use Rattle.scenario_history.specs.Steps.{unbegun, running, over}
use Rattle.replay_steps.specs.declared.version.Version.{Version}
use Rattle.replay_steps.specs.declared.version.Version.TheVariants.{One, Two}
use Rattle.replay_steps.specs.declared.version.Stage.{Stage}
use Rattle.replay_steps.specs.declared.version.Stage.TheVariants.{Unbegun, Running, Over}

abbrev pub number_of : Version → ℕ
number_of One = 1
number_of Two = 2

abbrev pub stage_in : Stage → history.Stage
stage_in Unbegun = unbegun
stage_in (Running version) = running (number_of version)
stage_in (Over version) = over (number_of version)
