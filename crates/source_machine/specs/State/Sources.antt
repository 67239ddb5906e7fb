-- A source between its start and its stop, and the calls that it stands for (Core 5.2, volume 6 part B, section 4.4.6,
-- and part G, section 2).
use Rattle.std.specs.Prelude.{ℕ, ◌+◌, ◌-◌, ◌≡◌, ◌<◌, Bool, true, false, List, [], length, get_or, map, min, Option, Some, None}
use Rattle.std.specs.List.{range_with_len}
use Rattle.base_grammar.specs.Layout.{Endpoint}
use Rattle.big_info.specs.declared.info.BigInfo.{BigInfo}
use Rattle.big_info.specs.declared.info.Cipher.{Cipher}
use Rattle.big_info.specs.Schedule.{horizon_of}
use Rattle.big_info.specs.Time.{iso_us_of}
use Rattle.sync_reference.specs.Reference.{anchor_of}
use Rattle.isoal_base.specs.Air.{Air, Laid, event_at}
use Rattle.isoal_unframed.specs.Calls.{Call as PlainCall}
use Rattle.isoal_framed.specs.Calls.{Call as TimedCall}
use Rattle.source_machine.specs.Airs.{air_after}
use Rattle.source_machine.specs.Calls.{Setup, Call, framed_calls, next_of, stream_calls}
use Rattle.source_machine.specs.Ciphers.{with_cipher}
use Rattle.source_machine.specs.Setups.{Configured}
use Rattle.source_machine.specs.State.Senders.{SenderStands, info_of}
use Rattle.source_machine.specs.declared.sender.Sender.{Sender}
use Rattle.source_machine.specs.declared.setup.Identity.{Identity}
use Rattle.source_machine.specs.declared.setup.Plan.{Plan}
use Rattle.source_machine.specs.declared.fault.EventFault.{EventFault}
use Rattle.source_machine.specs.declared.fault.EventFault.TheVariants.{CounterEnds, Memory}

-- a stream of a group: its index, its sender, and the PDUs of the events that were laid last, the oldest first
pub record Stream : Type 0 where
  pub bis : ℕ
  pub sender : Sender
  pub laid : List (List (List ℕ))

abbrev pub info_in : Stream → BigInfo
info_in stream = info_of stream.sender

-- who the source is, its BASE and its cipher, its setup, the next event, the streams by rising index, and whether an event
-- wanted memory
pub record Source : Type 0 where
  pub identity : Identity
  pub base : Endpoint
  pub cipher : Option Cipher
  pub setup : Setup
  pub next : ℕ
  pub streams : List Stream
  pub failed : Bool

-- what the source is configured with
abbrev pub configured_in : Source → Configured
configured_in source = record {
  identity = source.identity;
  info = source.setup.info;
  cipher = source.cipher;
  base = source.base;
  origin = source.setup.origin;
  ahead = source.setup.ahead;
}

-- its group, with its cipher
abbrev pub group_in : Source → BigInfo
group_in source = with_cipher source.setup.info source.cipher

-- the anchor of the next event, in µs
abbrev pub anchor_in : Source → ℕ
anchor_in source = anchor_of source.setup.origin source.setup.first source.next (iso_us_of source.setup.info)

abbrev pub setup_in : Plan → Configured
setup_in plan = record {
  identity = plan.identity;
  info = plan.group.info;
  cipher = plan.cipher;
  base = plan.base;
  origin = plan.origin;
  ahead = plan.ahead;
}

-- the PDUs of an event of an air
abbrev pub pdus_in : Option Laid → List (List ℕ)
pdus_in None = []
pdus_in (Some laid) = laid.pdus

abbrev pub pdus_at : Air → ℕ → List (List ℕ)
pdus_at air event = pdus_in (event_at air event)

-- the PDUs of the last `count` events of an air, or of all where there are fewer
abbrev pub last_laid : ℕ → Air → List (List (List ℕ))
last_laid count air = map (pdus_at air) (range_with_len (length air - count) (min count (length air)))

-- how many events that are laid a stream keeps: the last 32 that were performed, and the H events behind them
abbrev pub kept_of : BigInfo → ℕ
kept_of info = horizon_of info + 32

-- the stream of this index is as these calls of its sender leave it
pub record StreamStands (info : BigInfo) (bis : ℕ) (plain : List PlainCall) (timed : List TimedCall) (stream : Stream) : Type 0 where
  pub bis_is : stream.bis ≡ bis
  pub sender : SenderStands info plain timed stream.sender
  pub laid : stream.laid ≡ last_laid (kept_of info) (air_after info plain timed)

-- the stream of this index is as these calls of the source leave it
abbrev pub StreamIs : Setup → List Call → ℕ → Stream → Type 0
StreamIs setup calls bis stream =
    StreamStands setup.info bis (stream_calls setup.info bis calls) (framed_calls setup bis calls) stream

-- each of the streams, the first of which has index 1, is as these calls leave it
abbrev pub StreamsAre : Setup → List Call → List Stream → Type 0
StreamsAre setup calls streams =
    (k : ℕ) (none : Stream) → k < length streams → StreamIs setup calls (k + 1) (get_or streams k none)

-- the source is as these calls leave it
pub record StandsFor (calls : List Call) (source : Source) : Type 0 where
  pub next : source.next ≡ next_of source.setup calls
  pub streams : StreamsAre source.setup calls source.streams
  pub works : source.failed ≡ false

-- the source has failed; nothing else changed but its streams
pub record Fails (old new : Source) : Type 0 where
  pub identity : new.identity ≡ old.identity
  pub base : new.base ≡ old.base
  pub cipher : new.cipher ≡ old.cipher
  pub setup : new.setup ≡ old.setup
  pub next : new.next ≡ old.next
  pub failed : new.failed ≡ true

-- what a refused event leaves: all as it was, or a source that has failed
abbrev pub AfterFault : EventFault → Source → Source → Type 0
AfterFault CounterEnds old new = new ≡ old
AfterFault Memory old new = Fails old new
