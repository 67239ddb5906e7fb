-- Tables of a document, which have no other keys than they may have, and the lines that they stand for. The form is this
-- project's own.
use Rattle.std.specs.Prelude.{ℕ, ◌||◌, ◌&&◌, Bool, true, List, [], ◌∷◌, Option, None, Some, if◌then◌else◌, bytes_eq}
use Rattle.std.specs.List.{list_any}
use Rattle.std.specs.Option.{option_and_then}
use Rattle.bcast_io.specs.TextLines.{newline}
use Rattle.toml.specs.Data.{Data, as_table, Members, no_members, member}
use Rattle.scenario_toml.specs.Parts.{both}
use Rattle.scenario_toml.specs.Words.{Field, key_of}

abbrev pub is_field : List Field → List ℕ → Bool
is_field fields key = list_any (λ known. bytes_eq (key_of known) key) fields

abbrev pub is_among : List (List ℕ) → List ℕ → Bool
is_among others key = list_any (λ known. bytes_eq known key) others

abbrev pub is_known : List Field → List (List ℕ) → List ℕ → Bool
is_known fields others key = is_field fields key || is_among others key

abbrev pub only_has : List Field → List (List ℕ) → Members → Bool
only_has fields others no_members = true
only_has fields others (member key value members) = is_known fields others key && only_has fields others members

abbrev pub with_keys : List Field → List (List ℕ) → Option Members → Option Members
with_keys fields others table = option_and_then (λ members. if only_has fields others members then Some members else None) table

abbrev pub of_members : (Members → Option (List ℕ)) → Option Members → Option (List ℕ)
of_members part members = option_and_then part members

abbrev pub table_with : List Field → List (List ℕ) → (Members → Option (List ℕ)) → Data → Option (List ℕ)
table_with fields others part value = of_members part (with_keys fields others (as_table value))

abbrev pub line : List ℕ → Option (List ℕ) → Option (List ℕ)
line first others = both (Some first) (both others (Some (newline ∷ [])))
