-- Why a sink with this box, where it lives, is not made, not ended or not synchronized to a BIG, in the order of test, and what
-- became of the sinks then. The refusals are the scenario language's own.
use Rattle.std.specs.Prelude.{ℕ, ◌≡◌, nat_le, not, is_some, Option, None, Some, Result, Ok, Err}
use Rattle.std.specs.Option.{option_or}
use Rattle.transcript_text.specs.declared.refusal.Refusal.{Refusal}
use Rattle.transcript_text.specs.declared.refusal.Refusal.TheVariants.{NoSuchSink, SinkTwice, NoOutlet, NoSuchBis}
use Rattle.scenario_history.specs.Refusals.{has_beyond}
use Rattle.sink_history.specs.Refusals.{refuse_if}
use Rattle.scenario_sinks.specs.declared.sinks.Sinks.{Sinks}
use Rattle.transcript_text.specs.declared.stop.Stop.{Stop}
use Rattle.transcript_text.specs.declared.stop.Stop.TheVariants.{Refused, OutletFault, Memory}
use Rattle.scenario_sinks.specs.Histories.{Histories}
use Rattle.scenario_sinks.specs.State.Standing.{SinksStand}

abbrev pub not_living : Option ℕ → Option Refusal
not_living box = refuse_if (not (is_some box)) NoSuchSink

-- where so many sinks were made and there are so many boxes
abbrev pub not_made : Option ℕ → ℕ → ℕ → Option Refusal
not_made box made boxes = option_or (refuse_if (is_some box) SinkTwice) (refuse_if (nat_le boxes made) NoOutlet)

-- on a group with so many streams
abbrev pub not_tuned : Option ℕ → ℕ → ℕ → Option Refusal
not_tuned box num_bis which = option_or (not_living box) (refuse_if (has_beyond num_bis which) NoSuchBis)

-- what became of the sinks, where `fault` is why the step is refused: they have this past, and after a refusal the old one
abbrev pub Answers : Option Refusal → Histories → Histories → Sinks → Result (Unit {0}) Stop → Type 0
Answers fault old next new (Ok _) = (fault ≡ None) × SinksStand next new
Answers fault old next new (Err (Refused reason)) = (fault ≡ Some reason) × SinksStand old new
Answers fault old next new (Err OutletFault) = ⊥
Answers fault old next new (Err Memory) = SinksStand old new

-- the same of a step that changes the sink itself, of which nothing is said after want of memory
abbrev pub Tunes : Option Refusal → Histories → Histories → Sinks → Result (Unit {0}) Stop → Type 0
Tunes fault old next new (Ok _) = (fault ≡ None) × SinksStand next new
Tunes fault old next new (Err (Refused reason)) = (fault ≡ Some reason) × SinksStand old new
Tunes fault old next new (Err OutletFault) = ⊥
Tunes fault old next new (Err Memory) = Unit {0}
