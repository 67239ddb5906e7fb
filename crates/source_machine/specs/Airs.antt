-- What the streams of a source send (Core 5.2, volume 6 part B, section 4.4.6, and part G, section 2): the air of each,
-- and the PDU of it that a subevent carries.
use Rattle.std.specs.Prelude.{ℕ, ◌+◌, ◌-◌, ◌*◌, ◌/◌, ◌%◌, ◌≡◌, ◌≤◌, ◌<◌, ◌==◌, zero, suc, if◌then◌else◌, List, [], ◌∷◌, ◌++◌, length, map, Option, Some, None, unwrap_or, slice_get, option_and_then}
use Rattle.std.specs.List.{AllZip, flat_map, range_with_len}
use Rattle.big_info.specs.declared.info.BigInfo.{BigInfo}
use Rattle.big_info.specs.Schedule.{per_unit_of}
use Rattle.iso_pdu.specs.Layout.{Content}
use Rattle.isoal_unframed.specs.Slot.{laid}
use Rattle.radio_schedule.specs.PayloadNumber.{payload_number}
use Rattle.isoal_base.specs.Air.{Air, begun_in, pdu_at}
use Rattle.isoal_unframed.specs.Air.{before_event, unframed_air, unit_at}
use Rattle.isoal_unframed.specs.Calls.{Call as StreamCall, begun}
use Rattle.isoal_framed.specs.Air.{IsFramedAir}
use Rattle.isoal_framed.specs.Calls.{Call as FramedCall}
use Rattle.isoal_framed.specs.Filling.{framed_air}
use Rattle.source_machine.specs.Calls.{Setup, Call, framed_calls, given, laid_with, stream_calls}
use Rattle.source_machine.specs.declared.sent.Stale.{Stale}

-- the airs of the streams of a source, by what fixes it and by the calls that it took
abbrev pub Airs : Type 0
Airs = Setup → List Call → List Air

pub record IsAir (setup : Setup) (calls : List Call) (bis : ℕ) (air : Air) : Type 0 where
  pub unframed : setup.info.framing ≡ 0 → air ≡ unframed_air setup.info (stream_calls setup.info bis calls)
  pub framed : setup.info.framing ≡ 1 → IsFramedAir setup.info (framed_calls setup bis calls) air

abbrev pub AreAirs : Setup → List Call → List Air → Type 0
AreAirs setup calls airs = AllZip (IsAir setup calls) (range_with_len 1 setup.info.num_bis) airs

-- the air of a stream, of whose calls the one list counts by the framing of the group
abbrev pub air_after : BigInfo → List StreamCall → List FramedCall → Air
air_after info plain timed = if info.framing == 0 then unframed_air info plain else framed_air info timed

abbrev pub air_of : Setup → List Call → ℕ → Air
air_of setup calls bis = air_after setup.info (stream_calls setup.info bis calls) (framed_calls setup bis calls)

-- the only such airs of a group that was checked
abbrev pub airs_of : Setup → List Call → List Air
airs_of setup calls = map (air_of setup calls) (range_with_len 1 setup.info.num_bis)

-- the PDU of a stream that a subevent, from 0, of an event carries; in an air the source's first event counts as 0
abbrev pub pdu_of : Setup → List Air → ℕ → ℕ → ℕ → Option (List ℕ)
pdu_of setup airs event bis subevent =
    option_and_then (λ air. pdu_at setup.info.bn air (payload_number setup.info (event - setup.first) subevent)) (slice_get airs (bis - 1))

-- the PDUs that an event sends: that of stream b and subevent n, from 0, stands at place (b - 1) × NSE + n
pub record Sends (setup : Setup) (airs : List Air) (event : ℕ) (pdus : List (List ℕ)) : Type 0 where
  pub count : length pdus ≡ setup.info.num_bis * setup.info.nse
  pub each : (bis subevent : ℕ) → 1 ≤ bis → bis ≤ setup.info.num_bis → subevent < setup.info.nse
      → slice_get pdus ((bis - 1) * setup.info.nse + subevent) ≡ pdu_of setup airs event bis subevent

-- the times of the units that the newest `count` events of an air left out, in order
abbrev pub stale_in : ℕ → Air → List ℕ
stale_in zero air = []
stale_in (suc count) [] = []
stale_in (suc count) (entry ∷ earlier) = stale_in count earlier ++ entry.event.stale

abbrev pub stale_on : ℕ → List ℕ → List Stale
stale_on bis times = map (λ time. record { bis = bis; time = time }) times

-- the units that were left out of the events laid with an event after these calls, by rising index and in order
abbrev pub stale_of : Setup → List Call → List Air → List Stale
stale_of setup earlier airs =
    flat_map (λ bis. stale_on bis (stale_in (laid_with setup.info earlier) (unwrap_or (slice_get airs (bis - 1)) [])))
    (range_with_len 1 setup.info.num_bis)

-- the unit of each event and slot of a stream, where the slot has one; events count as the payload counter does
abbrev pub slots_of : Setup → List Call → ℕ → ℕ → ℕ → Option (List ℕ)
slots_of setup calls bis event slot = unit_at setup.info (stream_calls setup.info bis calls) (event - setup.first) slot

-- which of the units accepted on its stream takes a slot of an event, from 0
abbrev pub place_of : Setup → List Call → ℕ → ℕ → ℕ → ℕ
place_of setup calls bis event slot = begun setup.info (before_event (stream_calls setup.info bis calls) (event - setup.first)) + slot

-- what a stream sends at a payload number
abbrev pub content_at : Setup → List Call → ℕ → ℕ → Content
content_at setup calls bis number =
    laid setup.info.max_pdu (slots_of setup calls bis (number / setup.info.bn) (number % setup.info.bn / per_unit_of setup.info))
    (number % setup.info.bn % per_unit_of setup.info)

abbrev pub begun_of : Option Air → ℕ
begun_of None = 0
begun_of (Some air) = begun_in air

abbrev pub waiting_of : List Call → List Air → ℕ → ℕ
waiting_of calls airs bis = length (given bis calls) - begun_of (slice_get airs (bis - 1))
