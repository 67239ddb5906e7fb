-- Steps of which none was refused: the steps of lines, and all that happens by them. The refusals are the scenario language's own.
-- Lists of steps have the newest first.
use Rattle.std.specs.Prelude.{ℕ, ◌≡◌, List, [], ◌∷◌, None}
use Rattle.scenario_text.specs.Ranges.{IsInRange}
use Rattle.scenario_text.specs.declared.step.Step.{Step}
use Rattle.scenario_history.specs.RelayedUnits.{happened}
use Rattle.scenario_history.specs.Refusals.{line_refusal, refusal_of}
use Rattle.source_machine.specs.Airs.{Airs}

-- none of these steps was refused after those before it, and each is in range
abbrev pub AreLegal : Airs → ℕ → List Step → Type 0
AreLegal airs boxes [] = Unit {0}
AreLegal airs boxes (step ∷ earlier) = AreLegal airs boxes earlier × (refusal_of airs boxes earlier step ≡ None) × IsInRange step

-- no line of these steps was refused after what happened by those before it, and each is in range
abbrev pub AreSaidLegally : Airs → ℕ → List Step → Type 0
AreSaidLegally airs boxes [] = Unit {0}
AreSaidLegally airs boxes (step ∷ earlier) =
    AreSaidLegally airs boxes earlier × (line_refusal airs boxes (happened airs earlier) step ≡ None) × IsInRange step
