-- The sinks after a line of the control or of the links of one of them.
use Rattle.std.proofs.Common.{arith}
use Rattle.scenario_sinks.proofs.Prelude.{◌≡◌, ℕ, ◌<◌, List, length, ◌∙◌, slice_set, eq-eqb, Option, Some, Result, Ok, Err, most_sinks, Step, Source, calls_by, follows_by, received_by, source_by, train_by, Stop, Refused, OutletFault, Memory, Sink, Sinks, Histories, with_line, EntryRuns, EntryAt, EntryIs, SinksStand}
use Rattle.scenario_sinks.specs.SinkLines.{SinkLineMakes}
use Rattle.scenario_sinks.proofs.Entries.{OthersStay}
use Rattle.scenario_sinks.proofs.OneSink.{one_changed, same_stays}

-- ---- the source of the sink, and of the others

-- ---- the sinks

line_stays : (n : ℕ) (source : Source) (step : Step) (past : Histories) → OthersStay n past (with_line n source step past)
line_stays n source this past = grind (arith, train_by)

line_here : (n : ℕ) (source : Source) (step : Step) (past : Histories) (entry : Option (Option Sink))
    → EntryIs (past.boxes n) (past.mades n) (source_by source step (past.mades n) (past.lives n) (past.sources n))
    (calls_by source step (past.mades n) (past.lives n))
    (received_by source step (past.mades n) (past.lives n) (calls_by source step (past.mades n) (past.lives n)) (past.received n)) entry
    → EntryAt (with_line n source step past) n entry
line_here n source this past entry is = grind (arith, with_line, calls_by, eq-eqb, received_by, source_by, follows_by, train_by)

pub ran : (n at : ℕ) (source : Source) (step : Step) (past : Histories) (old new : Sinks) (entry : Option Sink) (text told : List ℕ) (r : Result (Unit {0}) Stop)
    → SinksStand past old → at ≡ n → n < most_sinks → length old.entries.items ≡ most_sinks
    → EntryRuns (past.boxes n) (past.mades n) (past.sources n) (past.lives n) (past.received n) source step entry text told r
    → new.entries.items ≡ slice_set old.entries.items at entry → new.outlet_count ≡ old.outlet_count → new.gathered ≡ old.gathered
    → SinkLineMakes past n source step new text told r
ran n at source line past old new entry text told (Ok x) stands same within eight t set more gathered = (
  t.0,
  one_changed n at past (with_line n source line past) old new entry same within eight (line_stays n source line past) stands
      (line_here n source line past (Some entry) t.1) set (more ∙ stands.made) gathered,
  t.2,
)
ran n at source line past old new entry text told (Err (Refused reason)) stands same within eight t set more gathered = (
  t.0,
  one_changed n at past past old new entry same within eight (same_stays n past) stands t.1 set (more ∙ stands.made) gathered,
  t.2,
)
ran n at source line past old new entry text told (Err OutletFault) stands same within eight t set more gathered = t
ran n at source line past old new entry text told (Err Memory) stands same within eight t set more gathered = t
