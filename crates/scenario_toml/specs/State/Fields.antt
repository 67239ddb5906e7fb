-- The keys of a table as the code has them.
use Rattle.std.specs.Prelude.{ℕ, List, map}
use Rattle.std.specs.Borrow.{Bor}
use Rattle.scenario_toml.specs.Words.{Field, text, number}
use Rattle.scenario_toml.specs.declared.fields.Field.{Field as CodeField}
use Rattle.scenario_toml.specs.declared.fields.Field.TheVariants.{Text, Number}

abbrev pub field_of : CodeField → Field
field_of (Text key) = text key.now
field_of (Number key) = number key.now

-- texts, as their octets
abbrev pub texts_of : List (Bor (List ℕ)) → List (List ℕ)
texts_of = map (λ text. text.now)
