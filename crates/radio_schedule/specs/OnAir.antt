-- The PDUs of the last events of a group, each event's by stream and then by subevent (Core 5.2, volume 6 part B, section
-- 4.4.6).
use Rattle.std.specs.Prelude.{ℕ, ◌+◌, ◌-◌, ◌*◌, List, [], length, slice_get, Option, Some, None, nat_lt, nat_le, if◌then◌else◌, option_and_then}
use Rattle.big_info.specs.declared.info.BigInfo.{BigInfo}
use Rattle.radio_schedule.specs.declared.air.AirFault.{AirFault}
use Rattle.radio_schedule.specs.declared.air.AirFault.TheVariants.{NoSuchBis, NoSuchSubevent, NotOnAir}

-- the numbers of the group, and the PDUs of the events that are kept, the newest event last
pub record OnAir : Type 0 where
  pub num_bis : ℕ
  pub nse : ℕ
  pub events : List (List (List ℕ))

-- nothing was sent yet
abbrev pub silence : BigInfo → OnAir
silence info = record { num_bis = info.num_bis; nse = info.nse; events = [] }

-- the first fault of a place on the air: the stream, the subevent, the event `back` events before the newest
abbrev pub fault_at : OnAir → ℕ → ℕ → ℕ → Option AirFault
fault_at air back bis subevent =
    if nat_lt air.num_bis bis then Some NoSuchBis
    else (if nat_le air.nse subevent then Some NoSuchSubevent
    else (if nat_le (length air.events) back then Some NotOnAir else None))

-- the PDU at a place
abbrev pub pdu_at : OnAir → ℕ → ℕ → ℕ → Option (List ℕ)
pdu_at air back bis subevent =
    option_and_then (λ pdus. slice_get pdus ((bis - 1) * air.nse + subevent)) (slice_get air.events (length air.events - 1 - back))
