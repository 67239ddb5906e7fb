-- The boxes that no sink of a scenario has. Boxes are this project's own.
use Rattle.std.specs.Prelude.{ℕ, ◌≡◌, ◌≢◌, List, Option, Some, slice_get}
use Rattle.scenario_sinks.specs.Histories.{Histories}

-- each box but this one, where there is one, is the same
abbrev pub AllButSame : {A : Type 0} → Option ℕ → List A → List A → Type 0
AllButSame box old new = (place : ℕ) → box ≢ Some place → slice_get new place ≡ slice_get old place

-- each box that no living sink has is the same
abbrev pub UnassignedSame : {A : Type 0} → Histories → List A → List A → Type 0
UnassignedSame past old new = (place : ℕ) → ((n : ℕ) → past.boxes n ≢ Some place) → slice_get new place ≡ slice_get old place
