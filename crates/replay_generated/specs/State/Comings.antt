-- How a generated line comes: as octets, or as the step that it says. Generated runs are this project's own.
use Rattle.std.specs.Prelude.{ℕ, ◌≡◌, List, ◌∷◌}
use Rattle.scenario_text.specs.Lines.{LineIs}
use Rattle.scenario_text.specs.Ranges as ranges
use Rattle.replay_generated.specs.declared.coming.Coming.{Coming}
use Rattle.replay_generated.specs.declared.coming.Coming.TheVariants.{Text, Said}

-- a line comes so, where a buffer has these octets
abbrev pub IsComing : Coming → List ℕ → List ℕ → Type 0
IsComing Text octets line = octets ≡ line
IsComing (Said step) octets line = (version : ℕ) → LineIs version step line

-- the numbers of its step keep to their ranges
abbrev pub IsInRange : Coming → Type 0
IsInRange Text = Unit {0}
IsInRange (Said step) = ranges.IsInRange step

-- the first of the lines comes so, and the others are left
pub record Comes (coming : Coming) (octets : List ℕ) (lines left : List (List ℕ)) : Type 0 where
  pub line : List ℕ
  pub next : lines ≡ line ∷ left
  pub is : IsComing coming octets line
