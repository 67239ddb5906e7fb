-- What each call makes of what a sink keeps.
use Rattle.std.specs.Prelude.{ℕ, zero, suc, ◌≡◌, ◌-◌, nat_le, List, [], length, map, Option, Some, None, slice_get, slice_index, slice_index_or, slice_set, if◌then◌else◌}
use Rattle.std.specs.List.{flat_map}
use Rattle.big_info.specs.declared.info.BigInfo.{BigInfo}
use Rattle.unit_outlets.specs.Handed.{Handed}
use Rattle.isoal_base.specs.declared.hearing.Hearing.{Hearing}
use Rattle.isoal_base.specs.declared.hearing.Hearing.TheVariants as hearings
use Rattle.sync_reference.specs.BigSync.{BigSync}
use Rattle.group_sink.specs.State.Receivers.{fresh, open_of, answer_by, hear_by, owed_of, closed}
use Rattle.group_sink.specs.State.Sinks.{OnGroup, places_of}
use Rattle.group_sink.specs.Streams.{number_of, stay_on, streams_of}
use Rattle.group_sink.specs.declared.receiver.Receiver.{Receiver}

-- the receivers of all streams that are taken, as the sink is synchronized to the BIG
abbrev pub fresh_on : BigSync → OnGroup
fresh_on big_sync = record {
  info = big_sync.info;
  places = places_of big_sync.which;
  streams = map (λ bis. fresh (stay_on big_sync bis)) (streams_of big_sync.which);
}

-- these receivers are for this group, and heard nothing yet
abbrev pub AreFor : BigSync → OnGroup → Type 0
AreFor big_sync receivers = receivers ≡ fresh_on big_sync

-- what a receiver makes of a PDU, where there is one and the subevent has a payload number
abbrev pub answer_at : Option ℕ → List ℕ → Option Receiver → Hearing
answer_at number octets None = hearings.NotTaken
answer_at None octets (Some receiver) = hearings.NoNumber
answer_at (Some number) octets (Some receiver) = hearings.Heard (answer_by number octets receiver)

abbrev pub hear_at : Option ℕ → List ℕ → Receiver → Receiver
hear_at None octets receiver = receiver
hear_at (Some number) octets receiver = hear_by number octets receiver

abbrev pub heard_at : Option ℕ → List ℕ → ℕ → Option Receiver → List Receiver → List Receiver
heard_at number octets place None streams = streams
heard_at number octets place (Some receiver) streams = slice_set streams place (hear_at number octets receiver)

-- the place of the receiver of a stream
abbrev pub place_on : ℕ → OnGroup → ℕ
place_on bis on = slice_index on.places (bis - 1)

abbrev pub answer_on : ℕ → ℕ → ℕ → List ℕ → OnGroup → Hearing
answer_on event bis subevent octets on = answer_at (number_of on.info event subevent) octets (slice_get on.streams (place_on bis on))

abbrev pub hear_on : ℕ → ℕ → ℕ → List ℕ → OnGroup → OnGroup
hear_on event bis subevent octets on = record on {
  streams = heard_at (number_of on.info event subevent) octets (place_on bis on) (slice_get on.streams (place_on bis on)) on.streams;
}

-- what a receiver makes of the PDUs of an event, but of those that are lost: of so many subevents, and of all
abbrev pub hear_where : Option ℕ → Option (List ℕ) → Receiver → Receiver
hear_where number None receiver = receiver
hear_where number (Some octets) receiver = hear_at number octets receiver

abbrev pub hear_first : BigInfo → ℕ → List (Option (List ℕ)) → ℕ → Receiver → Receiver
hear_first info event pdus zero receiver = receiver
hear_first info event pdus (suc s) receiver =
    hear_where (number_of info event s) (slice_index_or pdus s None) (hear_first info event pdus s receiver)

abbrev pub hear_all : BigInfo → ℕ → List (Option (List ℕ)) → Receiver → Receiver
hear_all info event pdus receiver = hear_first info event pdus (length pdus) receiver

abbrev pub all_heard_at : BigInfo → ℕ → List (Option (List ℕ)) → ℕ → Option Receiver → List Receiver → List Receiver
all_heard_at info event pdus place None streams = streams
all_heard_at info event pdus place (Some receiver) streams = slice_set streams place (hear_all info event pdus receiver)

abbrev pub hear_all_on : ℕ → ℕ → List (Option (List ℕ)) → OnGroup → OnGroup
hear_all_on event bis pdus on = record on {
  streams = all_heard_at on.info event pdus (place_on bis on) (slice_get on.streams (place_on bis on)) on.streams;
}

-- what a tick hands of a stream, and what it leaves of it
abbrev pub owed_by : ℕ → Receiver → List Handed
owed_by event receiver = if nat_le (open_of receiver) event then owed_of receiver else []

abbrev pub tick_at : ℕ → Receiver → Receiver
tick_at event receiver = if nat_le (open_of receiver) event then closed receiver else receiver

abbrev pub owed_on : ℕ → OnGroup → List Handed
owed_on event on = flat_map (owed_by event) on.streams

abbrev pub tick_on : ℕ → OnGroup → OnGroup
tick_on event on = record on { streams = map (tick_at event) on.streams }
