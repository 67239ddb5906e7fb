-- How a text grows by a part of a document.
use Rattle.std.specs.Prelude.{ℕ, ◌≡◌, List, Option, None, Some, Result, Ok, Err, ⊤}
use Rattle.scenario_toml.specs.Parts.{after}
use Rattle.scenario_toml.specs.declared.fault.TomlFault.{TomlFault}
use Rattle.scenario_toml.specs.declared.fault.TomlFault.TheVariants.{BadToml, BadDocument, Memory}

-- The part was put behind the text, or the document has not its form, or memory ran out.
abbrev pub Grows : Option (List ℕ) → List ℕ → List ℕ → Result ⊤ TomlFault → Type 0
Grows part old new (Ok done) = after old part ≡ Some new
Grows part old new (Err BadToml) = ⊥
Grows part old new (Err BadDocument) = part ≡ None
Grows part old new (Err Memory) = ⊤
