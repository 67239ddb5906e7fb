-- What C's calls say of the sink behind a handle.
use Rattle.std.specs.Prelude.{ℕ, Bool, false, List, [], ◌∷◌, ◌++◌, Option, Some, None, option_map, slice_get}
use Rattle.delegator_history.specs.Trains.{Setup}
use Rattle.delegator_history.specs.declared.notice.Notice.{Notice}
use Rattle.delegator_history.specs.Notices.{handed_out, mtu_in, waiting}
use Rattle.delegator_history.specs.States.{Step}
use Rattle.delegator_machine.specs.Calls.{Call, control, hear, tick}
use Rattle.delegator_machine.specs.Groups.{group_calls}
use Rattle.delegator_machine.specs.State.Halves.{StandsFor}
use Rattle.group_sink.specs.Handing.{handed_at}
use Rattle.group_sink.specs.Streams.{is_in}
use Rattle.sync_reference.specs.BigSync.{BigSync}
use Rattle.unit_outlets.specs.Handed.{Handed}
use Rattle.sink_c.specs.declared.handle.VmSink.{VmSink}
use Rattle.sink_c.specs.declared.machine.SinkMachine.{SinkMachine}
use Rattle.c_values.specs.Kept.{Room}

abbrev pub KeptStands : Setup → List Call → Option SinkMachine → Type 0
KeptStands setup calls None = ⊥
KeptStands setup calls (Some machine) = StandsFor setup calls machine.delegator

-- the handle keeps a sink of this setup that took these calls, the newest first
abbrev pub Stands : Setup → List Call → VmSink → Type 0
Stands setup calls handle = KeptStands setup calls handle.kept

abbrev pub units_kept : Option SinkMachine → List Handed
units_kept None = []
units_kept (Some machine) = machine.units.waiting

-- the units that wait for C, oldest first
abbrev pub waiting_in : VmSink → List Handed
waiting_in handle = units_kept handle.kept

abbrev pub room_kept : Option SinkMachine → Room
room_kept None = record { units = 0; octets = 0 }
room_kept (Some machine) = machine.units.room

-- the room that was reserved for them
abbrev pub room_in : VmSink → Room
room_in handle = room_kept handle.kept

-- all that the ticks handed up, oldest first
abbrev pub all_handed : Setup → List Call → List Handed
all_handed setup [] = []
all_handed setup (control step ∷ calls) = all_handed setup calls
all_handed setup (hear event bis subevent octets ∷ calls) = all_handed setup calls
all_handed setup (tick event ∷ calls) = all_handed setup calls ++ handed_at (group_calls setup calls) event

-- the sink is on a group, and takes this stream of it
abbrev pub is_taken : Option BigSync → ℕ → Bool
is_taken None bis = false
is_taken (Some big_sync) bis = is_in big_sync.which bis

-- the first notice that waits, as it is handed out
abbrev pub notices_of : Setup → List Step → Option Notice
notices_of setup steps = option_map (handed_out (mtu_in steps)) (slice_get (waiting setup steps) 0)
