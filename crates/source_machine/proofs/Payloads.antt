-- The PDU that a stream keeps of an event that was performed.
use Rattle.source_machine.proofs.Prelude.{ℕ, ◌≡◌, ◌<◌, ◌≤◌, ◌+◌, ◌-◌, ◌*◌, ◌/◌, ◌%◌, min, Option, Some, List, [], ◌++◌, length, arith, ◌∙◌, ap, get_or-map-range_with_len, length-map-range_with_len, div-mul-add, mod-mul-add, mod_below, none-some, slice_get-get_or, cases_lt, le-ltb, lt-ltb, div-lt_iff_lt-mul, mul-le-mul_left, slice_get, option_and_then, BigInfo, group_count, horizon_of, Air, Laid, event_at, pdu_at, laid_u, ahead_of, payload_number, air_of, airs_of, content_at, pdu_of, Setup, Call, events, framed_calls, next_of, stream_calls, Stream, StreamIs, info_in, kept_of, last_laid, pdus_at, pdus_in, sent_of}
use Rattle.isoal_unframed.specs.Calls.{events as laid_events}
use Rattle.iso_pdu.specs.Encoding.{pdu as encoded}
use Rattle.source_machine.proofs.Framings.{air_at, calls_keep, info_is, laid_count}
use Rattle.source_machine.proofs.Histories.{ahead_laid}

pub event_of_number : (info : BigInfo) (event subevent : ℕ) → 1 ≤ info.bn
    → payload_number info event subevent / info.bn ≡ event + ahead_of info (subevent / info.bn)
event_of_number info event subevent some = grind (arith, div-mul-add, ahead_of, mod_below)

pub place_of_number : (info : BigInfo) (event subevent : ℕ) → 1 ≤ info.bn
    → payload_number info event subevent % info.bn ≡ subevent % info.bn
place_of_number info event subevent some = grind (arith, mod-mul-add, ahead_of, mod_below)

-- a PDU of the list of an event is the PDU of the event
of_event : (event : Option Laid) (place : ℕ) (pdu : List ℕ) → slice_get (pdus_in event) place ≡ Some pdu
    → option_and_then (λ laid. slice_get laid.pdus place) event ≡ Some pdu
of_event event place pdu is = grind (arith, none-some)

last_laid_at : (count : ℕ) (air : Air) (i event : ℕ) → i < min count (length air) → (length air - count) + i ≡ event
    → slice_get (last_laid count air) i ≡ Some (pdus_at air event)
last_laid_at count air i event within at =
    let long : length (last_laid count air) ≡ min count (length air) = length-map-range_with_len (pdus_at air) (length air - count) (min count (length air)) in
    slice_get-get_or (last_laid count air) i [] (omega arith)
    ∙ ap (λ pdus. Some pdus) (get_or-map-range_with_len (pdus_at air) (length air - count) (min count (length air)) i event [] within at)

-- what a stream keeps, by its group
pub sent_kept : (info : BigInfo) (stream : Stream) (back subevent : ℕ) → info_in stream ≡ info
    → sent_of stream back subevent ≡ option_and_then (λ pdus. slice_get pdus (subevent % info.bn))
    (slice_get stream.laid (length stream.laid + ahead_of info (subevent / info.bn) - (horizon_of info + 1 + back)))
sent_kept info stream back subevent is = grind (arith, option_and_then, slice_get, length, ahead_of, horizon_of)

-- a stream keeps the last 32 events that were performed with the H events behind them
pub sent_is : (setup : Setup) (calls : List Call) (back bis subevent : ℕ) (stream : Stream) (pdu : List ℕ) → 1 ≤ setup.info.bn → 1 ≤ bis
    → bis ≤ setup.info.num_bis → back < events calls → back < 32 → ahead_of setup.info (subevent / setup.info.bn) ≤ horizon_of setup.info
    → StreamIs setup calls bis stream → sent_of stream back subevent ≡ Some pdu
    → pdu_of setup (airs_of setup calls) (next_of setup calls - 1 - back) bis subevent ≡ Some pdu
sent_is setup calls back bis subevent stream pdu some least within performed near ahead stands is =
    grind (
      arith,
      air_of,
      kept_of,
      next_of,
      ahead_of,
      option_and_then,
      slice_get,
      last_laid,
      length,
      horizon_of,
      sent_kept,
      info_is,
      stream_calls,
      framed_calls,
      payload_number,
      place_of_number,
      events,
      laid_count,
      min,
      length-map-range_with_len,
      pdus_at,
      event_of_number,
      last_laid_at,
      pdu_at,
      air_at,
      of_event,
      event_at,
    )

pub ahead_within : (info : BigInfo) (subevent : ℕ) → 1 ≤ info.bn → group_count info * info.bn ≡ info.nse → subevent < info.nse
    → ahead_of info (subevent / info.bn) ≤ horizon_of info
ahead_within info subevent some whole within = grind (arith, group_count, div-lt_iff_lt-mul, cases_lt, lt-ltb, mul-le-mul_left, le-ltb)

-- the event of a payload that an event carries
carried_in : (setup : Setup) (calls : List Call) (event subevent count : ℕ) → 1 ≤ setup.info.bn
    → group_count setup.info * setup.info.bn ≡ setup.info.nse → setup.first ≤ event → event < next_of setup calls → subevent < setup.info.nse
    → count ≡ events calls + horizon_of setup.info → payload_number setup.info (event - setup.first) subevent / setup.info.bn < count
carried_in setup calls event subevent count some whole least past within all =
    grind (arith, ahead_of, horizon_of, ahead_within, payload_number, event_of_number)

-- the events of the payloads that an event carries are laid with it
pub carried_is_laid : (setup : Setup) (calls : List Call) (event bis subevent : ℕ) → 1 ≤ setup.info.bn
    → group_count setup.info * setup.info.bn ≡ setup.info.nse → setup.first ≤ event → event < next_of setup calls → subevent < setup.info.nse
    → payload_number setup.info (event - setup.first) subevent / setup.info.bn < laid_events (stream_calls setup.info bis calls)
carried_is_laid setup calls event bis subevent some whole least past within = grind (arith, carried_in, stream_calls, ahead_laid)

pub sent_stays : (setup : Setup) (later calls : List Call) (event bis subevent : ℕ) → 1 ≤ setup.info.bn
    → group_count setup.info * setup.info.bn ≡ setup.info.nse → setup.first ≤ event → event < next_of setup calls
    → 1 ≤ bis → bis ≤ setup.info.num_bis → subevent < setup.info.nse
    → pdu_of setup (airs_of setup (later ++ calls)) event bis subevent ≡ pdu_of setup (airs_of setup calls) event bis subevent
sent_stays setup later calls event bis subevent some whole least past bis_least bis_within within =
    grind (arith, payload_number, calls_keep, carried_in, length, air_of, laid_count, option_and_then, pdu_at, air_at, slice_get)

-- the PDU at a payload number, where the payload counter has passed the events before the first one
pub number_counted : (setup : Setup) (calls : List Call) (event bis subevent : ℕ) → 1 ≤ setup.info.bn → setup.first ≤ event
    → laid_u setup.info (stream_calls setup.info bis calls) (payload_number setup.info (event - setup.first) subevent)
    ≡ encoded (content_at setup calls bis (payload_number setup.info event subevent))
number_counted setup calls event bis subevent some least = grind (arith, payload_number, event_of_number, place_of_number)
