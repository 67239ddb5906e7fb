-- A line of the generator, which is this project's own, that comes as its step.
use Rattle.std.specs.Prelude.{ℕ, ◌≡◌, List, ◌∷◌}
use Rattle.scenario_text.specs.declared.step.Step.{Step}
use Rattle.scenario_text.specs.Lines.{LineIs}

-- the first of the lines says this step in each version, and the others are left
pub record NextSays (step : Step) (lines left : List (List ℕ)) : Type 0 where
  pub line : List ℕ
  pub next : lines ≡ line ∷ left
  pub says : (version : ℕ) → LineIs version step line
