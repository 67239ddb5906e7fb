-- What a line that names a sink makes of its receivers, and of the source that the sink is of (Basic Audio Profile 1.0, section
-- 6.5): it is synchronized to a BIG by a train that is taken, and leaves it as its place says. Lists of calls have the newest first.
use Rattle.std.specs.Prelude.{ℕ, Bool, true, false, is_some, List, Option, Some, None, if◌then◌else◌}
use Rattle.delegator_machine.specs.Groups.{with_step}
use Rattle.delegator_history.specs.Snapshots.{Snapshot}
use Rattle.delegator_history.specs.Trains.{TrainOutcome, Settings, Train, outcome_by, ignored, big_sync_in}
use Rattle.sync_reference.specs.BigSync.{BigSync}
use Rattle.group_sink.specs.Calls as sinks
use Rattle.sink_history.specs.Calls.{Call}
use Rattle.scenario_text.specs.declared.step.Step.{Step}
use Rattle.scenario_text.specs.declared.step.Step.TheVariants as steps
use Rattle.sink_history.specs.History.{Source, given_train, own_train}
use Rattle.sink_history.specs.Output.{snapshot_in}

abbrev pub train_by : Source → Step → Option Train
train_by source (steps.Announce sink) = Some (own_train source)
train_by source (steps.Train sink time ext adv acad) = Some (given_train source time ext adv acad)
train_by source _ = None

-- ---- the group that it puts the sink on

abbrev pub big_sync_of : Settings → Snapshot → Option Train → Option BigSync
big_sync_of made snapshot None = None
big_sync_of made snapshot (Some train) = big_sync_in (outcome_by made.setup snapshot train)

-- the calls of the receivers after a line, before which the sink had this history and behind which it has that one
abbrev pub received_by : Source → Step → Option Settings → (before after : List Call) → List sinks.Call → List sinks.Call
received_by source line None before after calls = calls
received_by source line (Some made) before after calls =
    with_step (big_sync_of made (snapshot_in made before) (train_by source line)) (snapshot_in made before) (snapshot_in made after) calls

abbrev pub brings_by : Source → Step → Option Settings → List Call → Bool
brings_by source line None before = false
brings_by source line (Some made) before = is_some (big_sync_of made (snapshot_in made before) (train_by source line))

-- ---- the source that it is of then

abbrev pub follows : TrainOutcome → Bool
follows (ignored answer) = false
follows _ = true

abbrev pub follows_by : Source → Option Train → Option Settings → List Call → Bool
follows_by source (Some train) (Some made) before = follows (outcome_by made.setup (snapshot_in made before) train)
follows_by source _ _ before = false

-- the source of the last line that synchronized it to a train or a BIG
abbrev pub source_by : Source → Step → Option Settings → List Call → Option ℕ → Option ℕ
source_by source step made before its_source = if follows_by source (train_by source step) made before then Some source.number else its_source
