-- What each line prints is whole lines.
use Rattle.std.proofs.Common.{arith}
use Rattle.replay_generated.proofs.Prelude.{ℕ, List, [], ◌∷◌, Option, None, filter, flat_map, Account, airs_of, Step, SinkUnit, closing, sink_numbers, Refusal, Said, output_said, chosen_of, IsWhole, whole_append, whole_none}
use Rattle.unit_outlets.specs.Handed.{Handed, valid}
use Rattle.transcript_text.specs.Lines.{handed_line}
use Rattle.scenario_text.specs.declared.step.Step.TheVariants as kinds
use Rattle.scenario_history.specs.RelayedUnits.{Answered, Offer}
use Rattle.scenario_history.specs.Output.{answer_line, close_lines, dropped_lines, first_lines, output_of, sum_if, unit_lines}
use Rattle.replay_generated.proofs.SinkOutputs.{sink_lines_whole, line_whole}

all_whole : {X : Type 0} (print : X → List ℕ) → ((x : X) → IsWhole (print x)) → (xs : List X) → IsWhole (flat_map print xs)
all_whole print each [] = whole_none
all_whole print each (x ∷ xs) = whole_append (print x) (flat_map print xs) (each x) (all_whole print each xs)

handed_whole : (sink : ℕ) (unit : Handed) → IsWhole (handed_line sink unit)
handed_whole sink (valid bis time octets) = search line_whole
handed_whole sink unit = search line_whole

units_whole : (units : List SinkUnit) → IsWhole (unit_lines units)
units_whole units = search (all_whole, handed_whole)

sum_whole : (starts : List Account) (units : List SinkUnit) (n : ℕ) (box : Option ℕ) → IsWhole (sum_if starts units n box)
sum_whole starts units n None = whole_none
sum_whole starts units n box = search line_whole

answer_whole : (offer : Offer) (reason : Option Refusal) → IsWhole (answer_line offer reason)
answer_whole offer None = whole_none
answer_whole offer reason = search line_whole

dropped_whole : (n : ℕ) (answers : List Answered) → IsWhole (dropped_lines n answers)
dropped_whole n answers = grind (arith, all_whole, answer_whole, filter)

first_whole : (units : List SinkUnit) (answers : List Answered) → IsWhole (first_lines units answers)
first_whole units answers = grind (arith, all_whole, flat_map, whole_append, handed_whole, dropped_whole, sink_numbers)

close_whole : (steps : List Step) (made : Step) → IsWhole (close_lines airs_of steps made)
close_whole steps made = grind (arith, chosen_of, closing, airs_of, first_whole, units_whole)

output_whole : (starts : List Account) (steps : List Step) (made : Step) → IsWhole (output_of airs_of starts steps made)
output_whole starts steps kinds.Event = search (whole_append, close_whole, all_whole, line_whole)
output_whole starts steps made = search (
  whole_append,
  close_whole,
  line_whole,
  first_whole,
  units_whole,
  all_whole,
  sum_whole,
  sink_lines_whole,
  whole_none,
)

pub said_whole : (starts : List Account) (steps : List Step) (said : Said) → IsWhole (output_said airs_of starts steps said)
said_whole starts steps said = grind (arith, output_whole, whole_none)
