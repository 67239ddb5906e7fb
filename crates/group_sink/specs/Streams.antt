-- The streams that a sink takes, and what each of them took since the sink was synchronized to its BIG: a PDU under the payload
-- number of its subevent (Core 5.2, volume 6 part B, section 4.4.6), and the closes of its events.
use Rattle.std.specs.Prelude.{ℕ, ◌+◌, ◌-◌, ◌^◌, ◌==◌, nat_lt, nat_le, ◌&&◌, Bool, List, [], ◌∷◌, Option, Some, None, if◌then◌else◌}
use Rattle.std.specs.Int.{bit_at}
use Rattle.std.specs.List.{filter, range_with_len}
use Rattle.big_info.specs.declared.info.BigInfo.{BigInfo}
use Rattle.radio_schedule.specs.PayloadNumber.{payload_number}
use Rattle.isoal_base.specs.Stays as stays
use Rattle.isoal_base.specs.Stays.{Stay, opened}
use Rattle.group_sink.specs.Calls.{Call, hear, tick}
use Rattle.sync_reference.specs.BigSync.{BigSync}

abbrev pub is_in : ℕ → ℕ → Bool
is_in set bis = bit_at set (bis - 1) == 1

abbrev pub streams_of : ℕ → List ℕ
streams_of set = filter (is_in set) (range_with_len 1 31)

abbrev pub stay_on : BigSync → ℕ → Stay
stay_on big_sync bis = record { info = big_sync.info; bis = bis; first = big_sync.first; origin = big_sync.anchor; delay = big_sync.delay }

-- the payload number of a subevent of an event: none where the group has no such subevent or the number reaches 2^39
abbrev pub number_of : BigInfo → ℕ → ℕ → Option ℕ
number_of info event subevent = if nat_lt subevent info.nse && nat_lt (payload_number info event subevent) (2 ^ 39)
    then Some (payload_number info event subevent) else None

abbrev pub with_hear : Option ℕ → List ℕ → List stays.Call → List stays.Call
with_hear None octets calls = calls
with_hear (Some number) octets calls = stays.hear number octets ∷ calls

abbrev pub with_tick : Stay → ℕ → List stays.Call → List stays.Call
with_tick stay event calls = if nat_le (opened stay calls) event then stays.close ∷ calls else calls

-- what a stream took since the sink was synchronized to the BIG, or left it
abbrev pub stream_calls : Stay → List Call → List stays.Call
stream_calls stay (hear event bis subevent octets ∷ calls) =
    if bis == stay.bis then with_hear (number_of stay.info event subevent) octets (stream_calls stay calls) else stream_calls stay calls
stream_calls stay (tick event ∷ calls) = with_tick stay event (stream_calls stay calls)
stream_calls stay _ = []

-- how many events were closed since the last `tune` or `leave`: the ticks that found the open event at most theirs
abbrev pub closes : BigSync → List Call → ℕ
closes big_sync (hear event bis subevent octets ∷ calls) = closes big_sync calls
closes big_sync (tick event ∷ calls) =
    if nat_le (big_sync.first + closes big_sync calls) event then closes big_sync calls + 1 else closes big_sync calls
closes big_sync _ = 0
