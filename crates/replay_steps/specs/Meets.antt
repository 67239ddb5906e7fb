-- What a step does, by the definitions of a scenario, whose language is this project's own.
use Rattle.std.specs.Prelude.{ℕ, ◌≡◌, ◌≤◌, ◌⊎◌, List, ◌∷◌, ◌++◌, length, Option, None, Some, Result, Ok, Err}
use Rattle.unit_outlets.specs.Account.{Account}
use Rattle.source_machine.specs.Airs.{airs_of, Airs}
use Rattle.transcript_text.specs.declared.refusal.Refusal.{Refusal}
use Rattle.scenario_text.specs.declared.step.Step.{Step}
use Rattle.scenario_history.specs.Steps.{sinks_made}
use Rattle.scenario_history.specs.Boxes.{SinkUnit, accounts_after, handed_up, handed_by}
use Rattle.scenario_history.specs.Output.{output_of}
use Rattle.scenario_history.specs.RelayedUnits.{Answered, answered_by, with_relayed_units}
use Rattle.scenario_history.specs.Refusals.{is_relayed, line_refusal, phase_refusal, relayed_or}
use Rattle.replay_steps.specs.declared.machine.Machine.{Machine}
use Rattle.transcript_text.specs.declared.stop.Stop.{Stop}
use Rattle.transcript_text.specs.declared.stop.Stop.TheVariants.{Refused, OutletFault, Memory}
use Rattle.replay_steps.specs.Machines.{Stands}
use Rattle.scenario_sinks.specs.Handing.{CutShort}
use Rattle.replay_steps.specs.Failing.{CloseFails}

-- why the step of a line is refused that follows no `end`
abbrev pub phase_line : Airs → ℕ → List Step → Step → Option Refusal
phase_line airs boxes steps step = relayed_or (is_relayed steps step) (phase_refusal airs boxes steps step)

-- a step that prints nothing and hands up no unit, with so many boxes; one that is refused leaves the machine
abbrev pub Quiet : ℕ → List Step → Step → Machine → Result (Unit {0}) Stop → Type 0
Quiet boxes steps next new (Ok _) = (phase_line airs_of boxes steps next ≡ None) × Stands (next ∷ steps) new
Quiet boxes steps next new (Err (Refused reason)) = (phase_line airs_of boxes steps next ≡ Some reason) × Stands steps new
Quiet boxes steps next new (Err OutletFault) = ⊥
Quiet boxes steps next new (Err Memory) = Unit {0}

-- the boxes are as these steps leave them, by what they were at the start
pub record BoxesStand (starts : List Account) (steps : List Step) (accounts : List Account) : Type 0 where
  pub accounts_are : accounts ≡ accounts_after starts (handed_up airs_of steps)
  pub room : sinks_made steps ≤ length starts

-- a step that prints and hands up no unit: a text that ended in `text` ends in `told`
abbrev pub Tells : List Account → List Step → Step → Machine → List ℕ → List ℕ → Result (Unit {0}) Stop → Type 0
Tells starts steps next new text told (Ok _) =
    (phase_refusal airs_of (length starts) steps next ≡ None) × Stands (next ∷ steps) new × (told ≡ text ++ output_of airs_of starts steps next)
Tells starts steps next new text told (Err (Refused reason)) =
    (phase_refusal airs_of (length starts) steps next ≡ Some reason) × Stands steps new × (told ≡ text)
Tells starts steps next new text told (Err OutletFault) = ⊥
Tells starts steps next new text told (Err Memory) = Unit {0}

-- What became of a step or a line that is refused for this reason, after which `stays` holds, or else prints this output, hands up these
-- units and offers those that are answered so, after which `stands` holds: a text that ended in `text` ends in `told`, and the accounts
-- of the boxes were `before` and are `after`.
abbrev pub Becomes : Option Refusal → List ℕ → List SinkUnit → List Answered → (stands stays : Type 0) → List ℕ → List ℕ → List Account → List Account
    → Result (Unit {0}) Stop → Type 0
Becomes refusal output units answers stands stays text told before after (Ok _) =
    (refusal ≡ None) × stands × (told ≡ text ++ output) × (after ≡ accounts_after before units)
Becomes refusal output units answers stands stays text told before after (Err (Refused reason)) =
    (refusal ≡ Some reason) × stays × (told ≡ text) × (after ≡ before)
Becomes refusal output units answers stands stays text told before after (Err OutletFault) =
    (refusal ≡ None) × CloseFails units answers output text told before after
Becomes refusal output units answers stands stays text told before after (Err Memory) =
    (after ≡ before) ⊎ ((refusal ≡ None) × CutShort units before after)

-- a step that follows no `end`, with its relayed units before it
abbrev pub Meets : List Account → List Step → Step → Machine → List ℕ → List ℕ → List Account → List Account → Result (Unit {0}) Stop → Type 0
Meets starts steps next new text told before after result =
    Becomes (phase_line airs_of (length starts) steps next) (output_of airs_of starts steps next) (handed_by airs_of steps next)
    (answered_by airs_of steps next) (Stands (next ∷ with_relayed_units airs_of steps next) new) (Stands steps new) text told before after result

-- a step, with the refusal of one that follows `end` beside the others
abbrev pub StepMeets : List Account → List Step → Step → Machine → List ℕ → List ℕ → List Account → List Account → Result (Unit {0}) Stop → Type 0
StepMeets starts steps next new text told before after result =
    Becomes (line_refusal airs_of (length starts) steps next) (output_of airs_of starts steps next) (handed_by airs_of steps next)
    (answered_by airs_of steps next) (Stands (next ∷ with_relayed_units airs_of steps next) new) (Stands steps new) text told before after result
