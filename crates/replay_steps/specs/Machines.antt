-- The state of a scenario, whose language is this project's own, as far as it was run, and the steps that it stands for, the
-- newest first.
use Rattle.std.specs.Prelude.{◌≡◌, List, option_map}
use Rattle.std.specs.List.{list_any}
use Rattle.source_machine.specs.Airs.{airs_of}
use Rattle.scenario_text.specs.declared.step.Step.{Step}
use Rattle.scenario_history.specs.Steps.{stage_of, sinks_made, steps_of_source}
use Rattle.scenario_history.specs.Sinks.{sink_calls, source_of}
use Rattle.scenario_history.specs.Boxes.{box_of}
use Rattle.scenario_history.specs.Refusals.{gives_on}
use Rattle.scenario_history.specs.Relays as history
use Rattle.scenario_history.specs.Relays.{had_relay, relay_of}
use Rattle.scenario_history.specs.Worlds.{calls_made}
use Rattle.sink_history.specs.History.{made_of}
use Rattle.scenario_sources.specs.State.Standing.{SourcesStand}
use Rattle.scenario_sinks.specs.declared.route.Route.{Route}
use Rattle.scenario_sinks.specs.RelayHistories as relays
use Rattle.scenario_sinks.specs.State.RelaysStand.{RelaysStand}
use Rattle.scenario_sinks.specs.Histories.{Histories}
use Rattle.scenario_sinks.specs.State.Standing.{SinksStand}
use Rattle.replay_steps.specs.Versions.{stage_in}
use Rattle.replay_steps.specs.declared.machine.Machine.{Machine}

-- the past of the sinks by the steps
abbrev pub histories_of : List Step → Histories
histories_of steps = record {
  boxes = λ n. box_of n steps;
  mades = λ n. made_of n steps;
  sources = λ n. source_of n steps;
  lives = λ n. calls_made n steps;
  received = λ n. sink_calls airs_of n steps;
  made = sinks_made steps;
}

-- a relay as its room has it
abbrev pub lent : history.Route → Route
lent route = record { bis = route.bis; to = route.to }

-- the past of the relays by the steps
abbrev pub relay_histories : List Step → relays.Histories
relay_histories steps = record {
  routes = λ n. option_map lent (relay_of n steps);
  relayed = λ bis. had_relay bis steps;
  given = λ bis. list_any (gives_on bis) (steps_of_source 1 steps);
}

-- the machine is as the steps leave it
pub record Stands (steps : List Step) (machine : Machine) : Type 0 where
  pub stage : stage_in machine.stage ≡ stage_of steps
  pub sources : SourcesStand steps machine.sources
  pub sinks : SinksStand (histories_of steps) machine.sinks
  pub relays : RelaysStand (relay_histories steps) machine.relays
