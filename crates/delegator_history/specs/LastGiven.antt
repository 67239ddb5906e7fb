-- Looking back: what the last step that gives something gives. Steps are listed with the newest first. It is
-- this project's own.
use Rattle.std.specs.Prelude.{◌≡◌, List, [], ◌∷◌, ◌++◌, Option, Some, None}
use Rattle.std.specs.Option.{option_or}
use Rattle.std.specs.List.{AllByRecursion}

abbrev pub last_given : {S A : Type 0} → (S → Option A) → List S → Option A
last_given gives [] = None
last_given gives (step ∷ earlier) = option_or (gives step) (last_given gives earlier)

-- some step gives it, and no later one gives anything
pub record IsLastGiven {S A : Type 0} (gives : S → Option A) (steps : List S) (given : A) : Type 0 where
  pub later : List S
  pub step : S
  pub earlier : List S
  pub parts : steps ≡ later ++ step ∷ earlier
  pub here : gives step ≡ Some given
  pub none : AllByRecursion (λ s. gives s ≡ None) later
