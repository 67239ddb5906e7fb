-- What the sinks of a source hand up as an event of it is closed (Core 5.2, volume 6 part G, section 2.1).
use Rattle.std.specs.Prelude.{ℕ, List, [], map, Option, None, Some, Result, OnOk}
use Rattle.std.specs.List.{flat_map}
use Rattle.unit_outlets.specs.Account.{Account}
use Rattle.unit_outlets.specs.Handed.{Handed}
use Rattle.scenario_history.specs.Boxes.{SinkUnit, sink_numbers, closing_by}
use Rattle.scenario_sinks.specs.declared.sinks.Sinks.{Sinks}
use Rattle.transcript_text.specs.declared.stop.Stop.{Stop}
use Rattle.scenario_sinks.specs.Histories.{Histories, with_close, with_close_at}
use Rattle.scenario_sinks.specs.Handing.{Hands}
use Rattle.scenario_sinks.specs.State.Standing.{SinksLend, SinksStand}

-- the units of the sinks with these numbers
abbrev pub closings : ℕ → ℕ → Histories → List ℕ → List SinkUnit
closings source event past numbers = flat_map (λ n. closing_by source event n (past.received n) (past.sources n) (past.boxes n)) numbers

-- the units of all sinks, by rising number, where an event is open
abbrev pub closings_at : ℕ → Option ℕ → Histories → List SinkUnit
closings_at source None past = []
closings_at source (Some event) past = closings source event past sink_numbers

-- the units of the sink of this number
abbrev pub closing_of : (n source event : ℕ) → Histories → List SinkUnit
closing_of n source event past = closing_by source event n (past.received n) (past.sources n) (past.boxes n)

-- what a sink handed up of these units
abbrev pub handed_all : List SinkUnit → List Handed
handed_all units = map (λ (unit : SinkUnit). unit.unit) units

-- what became of the close of an event of a source for the sink of this number, which lends its units
pub record ClosesAt (past : Histories) (n source event : ℕ) (new : Sinks) (text told : List ℕ) (before after : List Account)
    (result : Result (Unit {0}) Stop) : Type 0 where
  pub hands : Hands (closing_of n source event past) text told before after result
  pub lends : OnOk result (SinksLend (with_close_at n source event past) (handed_all (closing_of n source event past)) new)

-- what became of the close of the open event of a source, where one is open
pub record Closes (past : Histories) (source : ℕ) (closed : Option ℕ) (new : Sinks) (text told : List ℕ) (before after : List Account)
    (result : Result (Unit {0}) Stop) : Type 0 where
  pub hands : Hands (closings_at source closed past) text told before after result
  pub stands : OnOk result (SinksStand (with_close source closed past) new)
