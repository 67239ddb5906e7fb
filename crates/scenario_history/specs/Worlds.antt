-- A source as a sink meets it: what it announces for its next event (Basic Audio Profile 1.0, section 3.7.2; Core 5.2, volume 6
-- part B, section 4.4.6.11), and its group from that event on. Lists of steps have the newest first; where a list is called
-- `own` its steps are those of one source.
use Rattle.std.specs.Prelude.{ℕ, List}
use Rattle.delegator_history.specs.Octets.{train_of}
use Rattle.announcement_train.specs.declared.train.Train.{Train}
use Rattle.sync_reference.specs.BigSync.{BigSync}
use Rattle.sink_history.specs.Calls.{Call}
use Rattle.scenario_text.specs.declared.step.Step.{Step}
use Rattle.sink_history.specs.History.{Source, World, history_of}
use Rattle.source_machine.specs.Calls.{next_of, next_anchor_of}
use Rattle.scenario_history.specs.Steps.{chosen_of, chosen_steps}
use Rattle.scenario_history.specs.Source.{checked_info, identity_of, setup_of, source_calls}
use Rattle.scenario_history.specs.Bases.{base_of}

abbrev pub announced_of : List Step → Train
announced_of own = train_of (identity_of own).broadcast_id (base_of own) (checked_info own) (next_of (setup_of own) (source_calls own))
    (next_anchor_of (setup_of own) (source_calls own))

-- the group from the next event on, for a sink on these streams
abbrev pub big_sync_on : List Step → ℕ → BigSync
big_sync_on own which = record {
  info = (setup_of own).info;
  which = which;
  first = next_of (setup_of own) (source_calls own);
  anchor = next_anchor_of (setup_of own) (source_calls own);
  delay = (setup_of own).delay;
}

abbrev pub source_at : List Step → Source
source_at steps = record {
  number = chosen_of steps;
  address_type = (identity_of (chosen_steps steps)).address_type;
  sid = (identity_of (chosen_steps steps)).sid;
  announced = announced_of (chosen_steps steps);
  big_sync = λ which. big_sync_on (chosen_steps steps) which;
}

abbrev pub the_world : World
the_world = record { source = source_at }

-- the history of the sink of a number, but for what it hears and closes
abbrev pub calls_made : ℕ → List Step → List Call
calls_made n steps = history_of the_world n steps
