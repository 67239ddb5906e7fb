-- What stands between the closes of two sinks.
use Rattle.std.specs.Prelude.{ℕ, ◌≡◌, ◌≤◌, ◌<◌, ◌+◌, ◌⊎◌, slice_get, List, [], ◌++◌, Option, Some, Result, Ok, OnOk}
use Rattle.std.specs.List.{range_with_len}
use Rattle.unit_outlets.specs.Account.{Account}
use Rattle.group_sink.specs.Calls.{Call}
use Rattle.sink_history.specs.Calls as links
use Rattle.scenario_history.specs.Boxes.{most_sinks, accounts_after, closing_by}
use Rattle.scenario_history.specs.Sinks.{is_of, ticked_if}
use Rattle.scenario_history.specs.Output.{unit_lines}
use Rattle.delegator_history.specs.Trains.{Settings}
use Rattle.scenario_sinks.specs.declared.gathered.Gathered.{Gathered}
use Rattle.scenario_sinks.specs.declared.sink.Sink.{Sink}
use Rattle.transcript_text.specs.declared.stop.Stop.{Stop}
use Rattle.scenario_sinks.specs.Histories.{Histories, with_close, with_close_at}
use Rattle.scenario_sinks.specs.Handing.{Hands}
use Rattle.scenario_sinks.specs.Closing.{closing_of, closings, closings_at, handed_all}
use Rattle.scenario_sinks.specs.State.Gathering.{calls_of}
use Rattle.scenario_sinks.specs.State.Standing.{EntryIs, EntryAt, EntriesAre}

-- one sink is ticked, where it is of the source
pub record SinkTicked (box : Option ℕ) (made : Option Settings) (own : Option ℕ) (calls_made : List links.Call) (received : List Call)
    (source event : ℕ)
    (entry : Option Sink) (gathered : Gathered) : Type 0 where
  pub entry_is : EntryIs box made own calls_made (ticked_if (is_of source own) (Some event) received) (Some entry)
  pub empty : calls_of gathered ≡ []

-- one sink is ticked, where it is of the source, and the units that it handed up are gathered
pub record SinkHeld (box : Option ℕ) (made : Option Settings) (own : Option ℕ) (calls_made : List links.Call) (received : List Call)
    (n source event : ℕ)
    (entry : Option Sink) (gathered : Gathered) : Type 0 where
  pub entry_is : EntryIs box made own calls_made (ticked_if (is_of source own) (Some event) received) (Some entry)
  pub held : calls_of gathered ≡ handed_all (closing_by source event n received own box)

-- what became of it as its units are handed up
pub record SinkHands (box : Option ℕ) (made : Option Settings) (own : Option ℕ) (calls_made : List links.Call) (received : List Call)
    (n source event : ℕ)
    (entry : Option Sink) (gathered : Gathered) (text told : List ℕ) (before after : List Account) (result : Result (Unit {0}) Stop) : Type 0 where
  pub hands : Hands (closing_by source event n received own box) text told before after result
  pub is_held : OnOk result (SinkHeld box made own calls_made received n source event entry gathered)

-- what became of a close of one sink
pub record SinkCloses (box : Option ℕ) (made : Option Settings) (own : Option ℕ) (calls_made : List links.Call) (received : List Call)
    (n source event : ℕ)
    (entry : Option Sink) (gathered : Gathered) (text told : List ℕ) (before after : List Account) (result : Result (Unit {0}) Stop) : Type 0 where
  pub hands : Hands (closing_by source event n received own box) text told before after result
  pub is_ticked : OnOk result (SinkTicked box made own calls_made received source event entry gathered)

-- the sinks below a number are ticked, and the others not yet
pub record Between (past : Histories) (source event number : ℕ) (sinks : List (Option Sink)) (gathered : Gathered)
    (text told : List ℕ) (before after : List Account) : Type 0 where
  pub done : (n : ℕ) → n < number → EntryAt (with_close source (Some event) past) n (slice_get sinks n)
  pub left : (n : ℕ) → number ≤ n → n < most_sinks → EntryAt past n (slice_get sinks n)
  pub empty : calls_of gathered ≡ []
  pub lines : told ≡ text ++ unit_lines (closings source event past (range_with_len 0 number))
  pub boxes_are : after ≡ accounts_after before (closings source event past (range_with_len 0 number))

-- all sinks of the source are ticked
pub record SinksTicked (past : Histories) (source event : ℕ) (sinks : List (Option Sink)) (gathered : Gathered) : Type 0 where
  pub entries : EntriesAre (with_close source (Some event) past) sinks
  pub empty : calls_of gathered ≡ []

-- what became of a close over all sinks
pub record AllClose (past : Histories) (source event : ℕ) (sinks : List (Option Sink)) (gathered : Gathered)
    (text told : List ℕ) (before after : List Account) (result : Result (Unit {0}) Stop) : Type 0 where
  pub hands : Hands (closings_at source (Some event) past) text told before after result
  pub is_ticked : OnOk result (SinksTicked past source event sinks gathered)

-- the sink of this number is ticked, where it is of the source, and the units that it handed up are gathered
pub record OneHeld (past : Histories) (n source event : ℕ) (sinks : List (Option Sink)) (gathered : Gathered) : Type 0 where
  pub entries : EntriesAre (with_close_at n source event past) sinks
  pub held : calls_of gathered ≡ handed_all (closing_of n source event past)

-- what became of a close over the sink of this number alone
pub record OneCloses (past : Histories) (n source event : ℕ) (sinks : List (Option Sink)) (gathered : Gathered)
    (text told : List ℕ) (before after : List Account) (result : Result (Unit {0}) Stop) : Type 0 where
  pub hands : Hands (closing_of n source event past) text told before after result
  pub is_held : OnOk result (OneHeld past n source event sinks gathered)

-- nothing happened so far
pub record Unmoved (sinks now : List (Option Sink)) (gathered : Gathered) (text told : List ℕ) (before after : List Account) : Type 0 where
  pub sinks_same : now ≡ sinks
  pub empty : calls_of gathered ≡ []
  pub lines : told ≡ text
  pub boxes_are : after ≡ before

-- that sink alone is closed, or not yet
abbrev pub OneBetween : Histories → (first source event number : ℕ) → (sinks now : List (Option Sink)) → Gathered → (text told : List ℕ) → (before after : List Account) → Type 0
OneBetween past first source event number sinks now gathered text told before after =
    ((number ≡ first) × Unmoved sinks now gathered text told before after)
    ⊎ ((number ≡ first + 1) × OneCloses past first source event now gathered text told before after (Ok tt))

-- the entries from a number on
abbrev pub EntriesFrom : Histories → ℕ → List (Option Sink) → Type 0
EntriesFrom past number sinks = (n : ℕ) → number ≤ n → n < most_sinks → EntryAt past n (slice_get sinks n)
