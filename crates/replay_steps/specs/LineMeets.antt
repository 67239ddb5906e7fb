-- What a line of a scenario does, by the definitions of its transcript. Both are this project's own.
use Rattle.std.specs.Prelude.{ℕ, List, [], ◌∷◌, Option, Result}
use Rattle.bcast_io.specs.TextLines.{TextLine}
use Rattle.unit_outlets.specs.Account.{Account}
use Rattle.source_machine.specs.Airs.{airs_of, Airs}
use Rattle.scenario_text.specs.declared.step.Step.{Step}
use Rattle.transcript_text.specs.declared.refusal.Refusal.{Refusal}
use Rattle.scenario_history.specs.RelayedUnits.{Answered, answered_by}
use Rattle.scenario_history.specs.Lines.{Said, a_step, rules_of, said_after, steps_of, handed_on}
use Rattle.replay_steps.specs.declared.machine.Machine.{Machine}
use Rattle.transcript_text.specs.declared.stop.Stop.{Stop}
use Rattle.replay_steps.specs.Machines.{Stands}
use Rattle.replay_steps.specs.Meets.{Becomes, BoxesStand}

-- the machine and the accounts of the boxes are as these lines leave them, by what the accounts were at the start
pub record LinesStand (starts : List Account) (lines : List TextLine) (machine : Machine) (accounts : List Account) : Type 0 where
  pub stands : Stands (steps_of airs_of lines) machine
  pub boxes : BoxesStand starts (steps_of airs_of lines) accounts

abbrev pub refusal_at : List Account → List TextLine → TextLine → Option Refusal
refusal_at starts lines line = (rules_of airs_of starts).refusal lines line

abbrev pub output_at : List Account → List TextLine → TextLine → List ℕ
output_at starts lines line = (rules_of airs_of starts).output lines line

abbrev pub answered_said : Airs → List Step → Said → List Answered
answered_said airs steps (a_step step) = answered_by airs steps step
answered_said airs steps _ = []

abbrev pub answered_on : Airs → List TextLine → TextLine → List Answered
answered_on airs lines line = answered_said airs (steps_of airs lines) (said_after lines line)

-- a line after these, which leaves the machine where it is refused, where a text ended in `text` and ends in `told`, and the accounts were `before` and are `after`
abbrev pub LineMeets : List Account → List TextLine → TextLine → Machine → List ℕ → List ℕ → List Account → List Account → Result (Unit {0}) Stop → Type 0
LineMeets starts lines line new text told before after result =
    Becomes (refusal_at starts lines line) (output_at starts lines line) (handed_on airs_of lines line) (answered_on airs_of lines line)
    (LinesStand starts (line ∷ lines) new after) (LinesStand starts lines new after) text told before after result
