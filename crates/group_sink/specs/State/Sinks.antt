-- What a sink keeps, and the calls that it stands for.
use Rattle.std.specs.Prelude.{ℕ, ◌≡◌, ◌-◌, List, length, map, Option, option_map, if◌then◌else◌}
use Rattle.std.specs.List.{filter, range_with_len}
use Rattle.big_info.specs.declared.info.BigInfo.{BigInfo}
use Rattle.group_sink.specs.Calls.{Call, place}
use Rattle.sync_reference.specs.BigSync.{BigSync}
use Rattle.group_sink.specs.Streams.{is_in, stay_on, stream_calls, streams_of}
use Rattle.group_sink.specs.State.Receivers.{receiver_after}
use Rattle.group_sink.specs.declared.receiver.Receiver.{Receiver}

-- a sink on a group: the group, for each index from 1 to 31 the place of the receiver of its stream, and the receivers of the
-- streams that it takes, by rising index
pub record OnGroup : Type 0 where
  pub info : BigInfo
  pub places : List ℕ
  pub streams : List Receiver

-- the place of the receiver of a stream: how many streams of lower index are taken; 31, where none stands, if it isn't taken
abbrev pub place_in : ℕ → ℕ → ℕ
place_in set bis = if is_in set bis then length (filter (is_in set) (range_with_len 1 (bis - 1))) else 31

abbrev pub places_of : ℕ → List ℕ
places_of set = map (place_in set) (range_with_len 1 31)

abbrev pub stream_after : BigSync → List Call → ℕ → Receiver
stream_after big_sync calls bis = receiver_after (stay_on big_sync bis) (stream_calls (stay_on big_sync bis) calls)

abbrev pub on_after : List Call → BigSync → OnGroup
on_after calls big_sync = record {
  info = big_sync.info;
  places = places_of big_sync.which;
  streams = map (stream_after big_sync calls) (streams_of big_sync.which);
}

-- the sink is where these calls left it, and each stream keeps what it heard
pub record StandsFor (calls : List Call) (sink : Option OnGroup) : Type 0 where
  pub place_is : sink ≡ option_map (on_after calls) (place calls)
