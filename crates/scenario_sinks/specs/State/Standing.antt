-- What the sinks of a scenario keep, and the past that it stands for.
use Rattle.std.specs.Prelude.{ℕ, ◌≡◌, ◌<◌, List, [], Option, None, Some, slice_get}
use Rattle.unit_outlets.specs.Handed.{Handed}
use Rattle.group_sink.specs.Calls.{Call}
use Rattle.sink_history.specs.Calls as links
use Rattle.scenario_history.specs.Boxes.{most_sinks}
use Rattle.scenario_sinks.specs.declared.sink.Sink.{Sink}
use Rattle.scenario_sinks.specs.declared.sinks.Sinks.{Sinks}
use Rattle.scenario_sinks.specs.Histories.{Histories}
use Rattle.scenario_sinks.specs.State.Gathering.{calls_of}
use Rattle.delegator_history.specs.Trains.{Settings}
use Rattle.scenario_sink.specs.SinkHistory.{SinkHistory}
use Rattle.scenario_sink.specs.State.Stands.{IsSink}

abbrev pub histories_of : Settings → Option ℕ → List links.Call → List Call → SinkHistory
histories_of made source calls_made received = record { made = made; source = source; calls_made = calls_made; received = received }

-- the entry of a number with this box, or none where no sink lives; the sink was made so, is of this source, has this history, and
-- its receivers took these calls
abbrev pub EntryIs : Option ℕ → Option Settings → Option ℕ → List links.Call → List Call → Option (Option Sink) → Type 0
EntryIs None made source calls_made received entry = (entry ≡ Some None) × (made ≡ None)
EntryIs (Some box) made source calls_made received entry =
    (sink : Sink) × (entry ≡ Some (Some sink)) × (sink.outlet ≡ box)
    × (how : Settings) × (made ≡ Some how) × IsSink (histories_of how source calls_made received) sink.living

abbrev pub EntryAt : Histories → ℕ → Option (Option Sink) → Type 0
EntryAt past n entry = EntryIs (past.boxes n) (past.mades n) (past.sources n) (past.lives n) (past.received n) entry

abbrev pub EntriesAre : Histories → List (Option Sink) → Type 0
EntriesAre past sinks = (n : ℕ) → n < most_sinks → EntryAt past n (slice_get sinks n)

-- the sinks are as their past left them, and lend these units
pub record SinksLend (past : Histories) (units : List Handed) (sinks : Sinks) : Type 0 where
  pub entries : EntriesAre past sinks.entries.items
  pub made : sinks.outlet_count ≡ past.made
  pub held : calls_of sinks.gathered ≡ units

-- the sinks are as their past left them
pub record SinksStand (past : Histories) (sinks : Sinks) : Type 0 where
  pub entries : EntriesAre past sinks.entries.items
  pub made : sinks.outlet_count ≡ past.made
  pub empty : calls_of sinks.gathered ≡ []
