-- The groups that a Scan Delegator is on (Basic Audio Profile 1.0, section 6.5): it is put on one by a caller or by a
-- train that is taken, and leaves it as the place of its control half says.
use Rattle.std.specs.Prelude.{◌&&◌, not, Bool, List, [], ◌∷◌, Option, Some, None, if◌then◌else◌}
use Rattle.std.specs.Option.{option_or}
use Rattle.delegator_history.specs.Snapshots.{Snapshot}
use Rattle.delegator_history.specs.States.{Step, sync_to_group, train_heard, snapshot_of}
use Rattle.delegator_history.specs.Trains.{Setup, outcome_by, big_sync_in}
use Rattle.sync_reference.specs.BigSync.{BigSync}
use Rattle.group_sink.specs.Calls as sinks
use Rattle.delegator_control.specs.Groups.{has_group}
use Rattle.delegator_machine.specs.Calls.{Call, control, hear, tick, steps_of}
use Rattle.delegator_history.specs.Announced.{numbers_alone}

-- the group that a step puts a sink on that has this
abbrev pub big_sync_given : Setup → Snapshot → Step → Option BigSync
big_sync_given setup snapshot (sync_to_group big_sync) = Some big_sync
big_sync_given setup snapshot (train_heard train) = big_sync_in (outcome_by setup snapshot train)
big_sync_given setup snapshot _ = None

-- the receivers go by the numbers of the group alone
abbrev pub by_numbers : BigSync → BigSync
by_numbers big_sync = record big_sync { info = numbers_alone big_sync.info }

-- ---- what the receivers take

abbrev pub with_leave : Bool → Bool → List sinks.Call → List sinks.Call
with_leave was is calls = if was && not is then sinks.leave ∷ calls else calls

abbrev pub with_step : Option BigSync → Snapshot → Snapshot → List sinks.Call → List sinks.Call
with_step (Some big_sync) before after calls = sinks.tune (by_numbers big_sync) ∷ calls
with_step None before after calls = with_leave (has_group before.place) (has_group after.place) calls

abbrev pub group_calls : Setup → List Call → List sinks.Call
group_calls setup [] = []
group_calls setup (control step ∷ calls) =
    let before = snapshot_of setup (steps_of calls) in
    with_step (big_sync_given setup before step) before (snapshot_of setup (step ∷ steps_of calls)) (group_calls setup calls)
group_calls setup (hear event bis subevent octets ∷ calls) = sinks.hear event bis subevent octets ∷ group_calls setup calls
group_calls setup (tick event ∷ calls) = sinks.tick event ∷ group_calls setup calls

-- ---- where the receivers are

-- the group of the last step that put the sink on one
abbrev pub last_big_sync : Setup → List Step → Option BigSync
last_big_sync setup [] = None
last_big_sync setup (step ∷ earlier) = option_or (big_sync_given setup (snapshot_of setup earlier) step) (last_big_sync setup earlier)
