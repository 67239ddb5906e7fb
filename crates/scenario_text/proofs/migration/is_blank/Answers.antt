use Rattle.scenario_text.proofs.Prelude.{ℕ, ◌≡◌, List, [], ◌∷◌, Some, ◌==◌, slice_get}
use Rattle.scenario_text.specs.Migrated.{is_blank}
use Rattle.scenario_text.proofs.migration.is_blank.Goals as goal

blank : (line : List ℕ) (octet : ℕ) → Some octet ≡ slice_get line 0 → (octet == 35) ≡ is_blank line
blank [] octet is = absurd cc
blank (first ∷ line) octet is = cc

pub returns-in-Some : goal.returns-in-Some
returns-in-Some c = blank _ _ c.in-Some.ensures.value
