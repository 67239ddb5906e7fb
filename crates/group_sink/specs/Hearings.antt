-- What a sink makes of a PDU that it hears: the first of these that holds. It is on no group; it doesn't take the stream;
-- the subevent carries no payload; else what the stream's stay makes of it (Core 5.2, volume 6 part B, section 4.4.6).
use Rattle.std.specs.Prelude.{ℕ, ◌*◌, ◌==◌, List, map, Option, Some, None, if◌then◌else◌}
use Rattle.std.specs.List.{range_with_len}
use Rattle.isoal_base.specs.declared.heard.Heard.{Heard}
use Rattle.isoal_base.specs.declared.hearing.Hearing.{Hearing}
use Rattle.isoal_base.specs.declared.hearing.Hearing.TheVariants as hearings
use Rattle.isoal_base.specs.Hearing.{answer_of}
use Rattle.isoal_base.specs.Stays as stays
use Rattle.isoal_base.specs.Stays.{Stay, opened, window_of}
use Rattle.iso_pdu.specs.Layout.{Content, Part}
use Rattle.isoal_unframed.specs.Histories.{heard_in}
use Rattle.isoal_unframed.specs.Units.{unframed}
use Rattle.isoal_framed.specs.Histories.{heard_in as segments_in}
use Rattle.isoal_framed.specs.Tokens.{segmented}
use Rattle.group_sink.specs.Calls.{Call, place}
use Rattle.sync_reference.specs.BigSync.{BigSync}
use Rattle.group_sink.specs.Streams.{is_in, stay_on, number_of, stream_calls}

-- what is heard of each number of the window, from the first number of the open event on, of an unframed stream
abbrev pub entries_of : Stay → List stays.Call → List (Option Content)
entries_of stay calls = map (heard_in stay calls) (range_with_len (opened stay calls * stay.info.bn) (window_of stay.info))

abbrev pub segments_of : Stay → List stays.Call → List (Option (List Part))
segments_of stay calls = map (segments_in stay calls) (range_with_len (opened stay calls * stay.info.bn) (window_of stay.info))

abbrev pub heard_on : Stay → List stays.Call → ℕ → List ℕ → Heard
heard_on stay calls number octets =
    if stay.info.framing == 0 then answer_of unframed stay.info (opened stay calls) (entries_of stay calls) number octets
    else answer_of segmented stay.info (opened stay calls) (segments_of stay calls) number octets

abbrev pub hearing_on : Stay → List stays.Call → Option ℕ → List ℕ → Hearing
hearing_on stay calls None octets = hearings.NoNumber
hearing_on stay calls (Some number) octets = hearings.Heard (heard_on stay calls number octets)

abbrev pub hearing_at : Option BigSync → List Call → ℕ → ℕ → ℕ → List ℕ → Hearing
hearing_at None calls event bis subevent octets = hearings.NotOnGroup
hearing_at (Some big_sync) calls event bis subevent octets = if is_in big_sync.which bis
    then hearing_on (stay_on big_sync bis) (stream_calls (stay_on big_sync bis) calls) (number_of big_sync.info event subevent) octets
    else hearings.NotTaken

abbrev pub hearing_of : List Call → ℕ → ℕ → ℕ → List ℕ → Hearing
hearing_of calls event bis subevent octets = hearing_at (place calls) calls event bis subevent octets
