-- The step that a line says of a unit or an event.
use Rattle.std.specs.Prelude.{ℕ, List}
use Rattle.scenario_text.specs.declared.step.Step.{Step}
use Rattle.scenario_text.specs.declared.step.Step.TheVariants.{Unit, Event, Air}
use Rattle.recurring_lines.specs.declared.frequent.Frequent.{Frequent}
use Rattle.recurring_lines.specs.declared.frequent.Frequent.TheVariants as lines

-- the step, whose octets are these where it is a unit
abbrev pub frequent_step : Frequent → List ℕ → Step
frequent_step (lines.Unit bis time) octets = Unit bis time octets
frequent_step lines.Event octets = Event
frequent_step (lines.Air sink lose) octets = Air sink lose
