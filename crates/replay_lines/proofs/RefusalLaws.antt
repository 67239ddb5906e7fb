-- No line is refused as NoEnd, which is the refusal of a text.
use Rattle.replay_lines.proofs.Prelude.{◌≡◌, ◌≢◌, ℕ, Bool, List, length, Option, None, Some, Result, TextLine, plain, too_long, past, Account, airs_of, Refusal, NoSuchSink, NoEnd, Step, version_of, box_of, said_by, said_of, steps_of, refusal_said, refusal_at, arith, not, is_some, no_sink, relayed_or, sink_refusal, source_refusal, twin_refusal, refusal_of}
use Rattle.std.specs.Option.{option_or}
use Rattle.sink_history.specs.History.{World}
use Rattle.sink_history.specs.Refusals.{refusal_of as refusal_of_sink, refuse_if}
use Rattle.scenario_text.specs.declared.step.Step.TheVariants as kinds
use Rattle.scenario_words.specs.declared.fault.LineFault.{LineFault}

abbrev OtherThan : Option Refusal → Type 0
OtherThan None = Unit {0}
OtherThan (Some reason) = reason ≢ NoEnd

other_if : (b : Bool) (reason : Refusal) → reason ≢ NoEnd → OtherThan (refuse_if b reason)
other_if b reason other = grind arith

other_or : (p q : Option Refusal) → OtherThan p → OtherThan q → OtherThan (option_or p q)
other_or p q h k = grind arith

other_no_sink : (sink : ℕ) (steps : List Step) → OtherThan (no_sink sink steps)
other_no_sink sink steps = other_if (not (is_some (box_of sink steps))) NoSuchSink (λ e. cc)

other_named : (world : World) (earlier : List Step) (step : Step) → OtherThan (refusal_of_sink world earlier step)
other_named world earlier this = grind (arith, other_or, other_if)

-- ---- all reasons

other_of_sinks : (boxes : ℕ) (steps : List Step) (step : Step) → OtherThan (sink_refusal boxes steps step)
other_of_sinks boxes steps (kinds.Sink sink streams slots mtu) = grind (arith, other_or, other_if)
other_of_sinks boxes steps made = search (other_no_sink, other_named)

other_of_source : (version : ℕ) (own : List Step) (step : Step) → OtherThan (source_refusal airs_of version own step)
other_of_source version own _ = grind arith

other_of_twin : (steps : List Step) (step : Step) → OtherThan (twin_refusal steps step)
other_of_twin steps _ = grind (arith, other_if, other_or, other_no_sink)

other_step : (boxes : ℕ) (steps : List Step) (step : Step) → OtherThan (refusal_of airs_of boxes steps step)
other_step boxes steps made = grind (arith, other_or, other_if, other_of_sinks, other_of_source, other_of_twin)

other_relayed : (test : Bool) (refusal : Option Refusal) → OtherThan refusal → OtherThan (relayed_or test refusal)
other_relayed test refusal other = grind arith

other_read : (boxes : ℕ) (steps : List Step) (read : Result (Option Step) LineFault) → OtherThan (refusal_said airs_of boxes steps (said_by read))
other_read boxes steps read = grind (arith, other_relayed, airs_of, other_step)

pub never_no_end : (starts : List Account) (history : List TextLine) (line : TextLine) → refusal_at starts history line ≡ Some NoEnd → ⊥
never_no_end starts history line e = grind (arith, plain, other_read, too_long, past, length, version_of, said_of, steps_of, airs_of)
