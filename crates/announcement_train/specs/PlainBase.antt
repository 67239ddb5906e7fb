-- The BASE of a source of which no line says one (after Basic Audio Profile 1.0, section 3.7.2.2): one subgroup of LC3 with
-- nothing configured, and an entry with nothing configured for each index from 1 on.
use Rattle.std.specs.Prelude.{ℕ, List, [], ◌∷◌, map}
use Rattle.std.specs.List.{range_with_len}
use Rattle.base_grammar.specs.Layout.{Endpoint, endpoint, lc3}
use Rattle.base_grammar.specs.declared.subgroup.BaseEntry.{BaseEntry}
use Rattle.base_grammar.specs.declared.subgroup.Subgroup.{Subgroup}

abbrev pub plain_entry : ℕ → BaseEntry
plain_entry bis = record { bis = bis; config = [] }

abbrev pub plain_entries : ℕ → List BaseEntry
plain_entries count = map plain_entry (range_with_len 1 count)

abbrev pub plain_subgroup : ℕ → Subgroup
plain_subgroup count = record { codec = lc3; config = []; metadata = []; entries = plain_entries count }

abbrev pub plain_base_of : ℕ → ℕ → Endpoint
plain_base_of delay count = endpoint delay (plain_subgroup count ∷ [])
