-- The counts of faults of the boxes. Boxes are this project's own.
use Rattle.std.specs.Prelude.{ℕ, ◌≡◌, ◌≢◌, List, Option, option_map, slice_get}
use Rattle.unit_outlets.specs.Account.{Account}

abbrev pub faults_at : List Account → ℕ → Option ℕ
faults_at accounts box = option_map (λ account. account.faults) (slice_get accounts box)

abbrev pub CountsStay : List Account → List Account → Type 0
CountsStay old new = (box : ℕ) → faults_at new box ≡ faults_at old box

-- each box but one has the count that it had
pub record OneCounts (old new : List Account) : Type 0 where
  pub place : ℕ
  pub others : (box : ℕ) → box ≢ place → faults_at new box ≡ faults_at old box
