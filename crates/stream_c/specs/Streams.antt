-- What C's calls say of the receiver behind the handle of a stream (Core 5.2, volume 6 part G, section 2).
use Rattle.std.specs.Prelude.{ℕ, ◌≡◌, ◌==◌, ◌*◌, List, [], map, Option, Some, None, if◌then◌else◌}
use Rattle.std.specs.List.{range_with_len}
use Rattle.big_info.specs.Schedule.{per_event_of}
use Rattle.big_info.specs.declared.info.BigInfo.{BigInfo}
use Rattle.iso_pdu.specs.Layout.{Content}
use Rattle.isoal_base.specs.Stays.{Call, Stay, opened, window_of}
use Rattle.isoal_framed.specs.Histories.{decided, held_of, undecided_in}
use Rattle.isoal_framed.specs.State.Windows as segments
use Rattle.isoal_unframed.specs.Histories.{handed, heard_in}
use Rattle.isoal_unframed.specs.State.Windows as plain
use Rattle.isoal_unframed.specs.State.Windows.{held_in_event}
use Rattle.unit_outlets.specs.Handed.{Handed}
use Rattle.c_values.specs.Kept.{Room}
use Rattle.stream_c.specs.declared.handle.VmStream.{VmStream}
use Rattle.stream_c.specs.declared.machine.StreamMachine.{StreamMachine}
use Rattle.stream_c.specs.declared.receiver.Receiver.{Receiver}
use Rattle.stream_c.specs.declared.receiver.Receiver.TheVariants.{Framed, Unframed}

pub record PlainStands (stay : Stay) (calls : List Call) (window : plain.Window) : Type 0 where
  pub framing : stay.info.framing ≡ 0
  pub stay_is : window.stay ≡ stay
  pub stands : plain.Stands calls window

pub record FramedStands (stay : Stay) (calls : List Call) (window : segments.Window) : Type 0 where
  pub framing : stay.info.framing ≡ 1
  pub stay_is : window.stay ≡ stay
  pub stands : segments.Stands calls window

abbrev pub StandsBy : Stay → List Call → Receiver → Type 0
StandsBy stay calls (Unframed window) = PlainStands stay calls window
StandsBy stay calls (Framed window) = FramedStands stay calls window

-- the receiver is on this stay, and took these calls
pub record ReceiverStands (stay : Stay) (calls : List Call) (receiver : Receiver) : Type 0 where
  pub by_framing : StandsBy stay calls receiver

-- its open event
abbrev pub event_of : Receiver → ℕ
event_of (Unframed window) = window.event
event_of (Framed window) = window.event

abbrev pub KeptStands : Stay → List Call → Option StreamMachine → Type 0
KeptStands stay calls None = ⊥
KeptStands stay calls (Some machine) = ReceiverStands stay calls machine.receiver

-- the handle keeps a receiver on this stay that took these calls, the newest first
abbrev pub Stands : Stay → List Call → VmStream → Type 0
Stands stay calls handle = KeptStands stay calls handle.kept

abbrev pub units_kept : Option StreamMachine → List Handed
units_kept None = []
units_kept (Some machine) = machine.units.waiting

-- the units that wait for C, oldest first
abbrev pub waiting_in : VmStream → List Handed
waiting_in handle = units_kept handle.kept

abbrev pub room_kept : Option StreamMachine → Room
room_kept None = record { units = 0; octets = 0 }
room_kept (Some machine) = machine.units.room

-- the room that was reserved for them
abbrev pub room_in : VmStream → Room
room_in handle = room_kept handle.kept

-- all that the closes handed up, oldest first: of an unframed stream the units of its closed events, of a framed one those that its
-- closed events decide
abbrev pub all_handed : Stay → List Call → List Handed
all_handed stay calls = if stay.info.framing == 0 then handed stay calls else decided stay calls

-- what was heard of each payload number of the window, from the first number of the open event on
abbrev pub heard_of_window : Stay → List Call → List (Option Content)
heard_of_window stay calls = map (heard_in stay calls) (range_with_len (opened stay calls * stay.info.bn) (window_of stay.info))

-- the octets held: of an unframed stream those of the longest prefix of each slot of the open event, of a framed one those of the unit
-- that the closed events don't decide
abbrev pub held_by : Stay → List Call → ℕ
held_by stay calls = if stay.info.framing == 0 then held_in_event stay (heard_of_window stay calls) else held_of (undecided_in stay calls)

-- a unit for each slot of an event, or one unit
abbrev pub most_held : BigInfo → ℕ
most_held info = if info.framing == 0 then per_event_of info * info.max_sdu else info.max_sdu
