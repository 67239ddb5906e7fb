-- The air of a source, and the calls that it stands for (Core 5.2, volume 6 part B, section 4.4.6).
use Rattle.std.specs.Prelude.{ℕ, ◌-◌, ◌≡◌, ◌<◌, min, List, length, slice_index_or, []}
use Rattle.isoal_base.specs.Air.{Air}
use Rattle.radio_schedule.specs.OnAir.{OnAir}
use Rattle.source_machine.specs.Airs.{AreAirs, Sends}
use Rattle.source_machine.specs.Calls.{Setup, Call, events, next_of}

-- the air is of the source's group
pub record IsOfGroup (setup : Setup) (air : OnAir) : Type 0 where
  pub streams : air.num_bis ≡ setup.info.num_bis
  pub subevents : air.nse ≡ setup.info.nse

-- the last 32 events that were performed are on the air, each with the PDUs that it sent
pub record IsOnAir (setup : Setup) (calls : List Call) (air : OnAir) : Type 0 where
  pub group : IsOfGroup setup air
  pub count : length air.events ≡ min 32 (events calls)
  pub sent : (back : ℕ) (airs : List Air) → back < length air.events → AreAirs setup calls airs
      → Sends setup airs (next_of setup calls - 1 - back) (slice_index_or air.events (length air.events - 1 - back) [])
