-- The boxes that no `sink` line took. The language of scenarios is this project's own.
use Rattle.std.specs.Prelude.{ℕ, ◌≡◌, ◌≤◌, List, [], ◌++◌, reverse, slice_get}
use Rattle.bcast_io.specs.TextLines.{TextLine}
use Rattle.unit_outlets.specs.Account.{Account}
use Rattle.source_machine.specs.Airs.{airs_of, Airs}
use Rattle.scenario_text.specs.declared.step.Step.{Step}
use Rattle.scenario_history.specs.Runs.{Accepted, accepted_of}
use Rattle.scenario_history.specs.Lines.{rules_of, steps_of}
use Rattle.scenario_history.specs.Steps.{sinks_made}

-- each box behind those that the sinks of these steps took, the first ones of the list, is the same
abbrev pub UnassignedSame : {A : Type 0} → List Step → List A → List A → Type 0
UnassignedSame steps old new = (box : ℕ) → sinks_made steps ≤ box → slice_get new box ≡ slice_get old box

-- each box behind those that the accepted `sink` lines among these take, the first ones of the list, is the same
abbrev pub UnassignedBy : {A : Type 0} → Airs → List Account → List TextLine → List A → List A → Type 0
UnassignedBy airs starts lines old new = UnassignedSame (steps_of airs (accepted_of (rules_of airs starts) [] lines)) old new

-- the first of these lines were run, of which none is refused, and each box that none of them took is the same
pub record UnassignedRun {A : Type 0} (starts : List Account) (lines : List TextLine) (old new : List A) : Type 0 where
  pub earlier : List TextLine
  pub later : List TextLine
  pub split : lines ≡ reverse earlier ++ later
  pub accepted : Accepted (rules_of airs_of starts) earlier
  pub same : UnassignedSame (steps_of airs_of earlier) old new
