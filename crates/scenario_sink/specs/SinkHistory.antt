-- One sink of a scenario so far, and what a line makes of it (Basic Audio Profile 1.0, section 6.5). Lists of calls have the
-- newest first. The scenario language is this project's own.
use Rattle.std.specs.Prelude.{ℕ, List, [], ◌∷◌, Option, Some, None}
use Rattle.delegator_machine.specs.Groups.{by_numbers}
use Rattle.delegator_history.specs.States.{sync_to_group}
use Rattle.delegator_history.specs.Trains.{Settings}
use Rattle.sync_reference.specs.BigSync.{BigSync}
use Rattle.group_sink.specs.Calls as sinks
use Rattle.sink_history.specs.Calls.{Call, born, stepped}
use Rattle.scenario_text.specs.declared.step.Step.{Step}
use Rattle.sink_history.specs.History.{Source, calls_by}
use Rattle.sink_history.specs.Moves.{received_by, source_by}

-- how it was made, the source that it is of, its history and that of its assistants, and what its receivers took
pub record SinkHistory : Type 0 where
  pub made : Settings
  pub source : Option ℕ
  pub calls_made : List Call
  pub received : List sinks.Call

-- a new sink
abbrev pub new_sink : Settings → SinkHistory
new_sink made = record { made = made; source = None; calls_made = born made.mtu; received = [] }

-- a line names it, which means this source
abbrev pub after_line : Source → Step → SinkHistory → SinkHistory
after_line source step history = record {
  made = history.made;
  source = source_by source step (Some history.made) history.calls_made history.source;
  calls_made = calls_by source step (Some history.made) history.calls_made;
  received = received_by source step (Some history.made) history.calls_made (calls_by source step (Some history.made) history.calls_made) history.received;
}

-- a source synchronizes it to its BIG
abbrev pub after_tuning : ℕ → BigSync → SinkHistory → SinkHistory
after_tuning source big_sync history = record {
  made = history.made;
  source = Some source;
  calls_made = stepped (sync_to_group big_sync) ∷ history.calls_made;
  received = sinks.tune (by_numbers big_sync) ∷ history.received;
}

-- its receivers take a call
abbrev pub receiving : sinks.Call → SinkHistory → SinkHistory
receiving call history = record { made = history.made; source = history.source; calls_made = history.calls_made; received = call ∷ history.received }

-- and hear what the subevents of an event of a stream bring
abbrev pub hearing_event : (event bis : ℕ) → List (Option (List ℕ)) → SinkHistory → SinkHistory
hearing_event event bis pdus history = record {
  made = history.made;
  source = history.source;
  calls_made = history.calls_made;
  received = sinks.heard_calls event bis pdus history.received;
}
