-- What a sink hands up as events are over (Core 5.2, volume 6 part G, sections 2.1 and 2.2): for each stream that it takes,
-- by rising index, what the close of its open event hands, where that is over.
use Rattle.std.specs.Prelude.{ℕ, nat_le, ◌==◌, List, [], ◌∷◌, ◌++◌, Option, Some, None, if◌then◌else◌}
use Rattle.std.specs.List.{filter, flat_map}
use Rattle.unit_outlets.specs.Handed.{Handed, valid, lost}
use Rattle.isoal_base.specs.Stays as stays
use Rattle.isoal_base.specs.Stays.{Stay, opened}
use Rattle.isoal_unframed.specs.Histories.{units_of}
use Rattle.isoal_framed.specs.Histories.{gained}
use Rattle.group_sink.specs.Calls.{Call, tune, hear, tick, leave, place}
use Rattle.sync_reference.specs.BigSync.{BigSync}
use Rattle.group_sink.specs.Streams.{stay_on, stream_calls, streams_of}

abbrev pub units_at_close : Stay → List stays.Call → List Handed
units_at_close stay calls = if stay.info.framing == 0 then units_of stay calls (opened stay calls) else gained stay calls

abbrev pub units_by : ℕ → Stay → List stays.Call → List Handed
units_by event stay calls = if nat_le (opened stay calls) event then units_at_close stay calls else []

abbrev pub units_on : ℕ → List Call → BigSync → ℕ → List Handed
units_on event calls big_sync bis = units_by event (stay_on big_sync bis) (stream_calls (stay_on big_sync bis) calls)

abbrev pub handed_by : ℕ → List Call → Option BigSync → List Handed
handed_by event calls None = []
handed_by event calls (Some big_sync) = flat_map (units_on event calls big_sync) (streams_of big_sync.which)

abbrev pub handed_at : List Call → ℕ → List Handed
handed_at calls event = handed_by event calls (place calls)

-- what the ticks handed since the sink was synchronized to its BIG, or left it
abbrev pub handed_since : List Call → List Handed
handed_since [] = []
handed_since (tune big_sync ∷ calls) = []
handed_since (hear event bis subevent octets ∷ calls) = handed_since calls
handed_since (tick event ∷ calls) = handed_since calls ++ handed_at calls event
handed_since (leave ∷ calls) = []

abbrev pub bis_of : Handed → ℕ
bis_of (valid bis time octets) = bis
bis_of (lost bis time) = bis

abbrev pub of_stream : ℕ → List Handed → List Handed
of_stream bis entries = filter (λ entry. bis_of entry == bis) entries
