use Rattle.scenario_toml.proofs.Prelude.{◌≡◌, drop, map, field_of, is_field}
use Rattle.scenario_toml.proofs.tables.is_field.Given as goal

abbrev pub invariant-fields : goal.invariant-fields
invariant-fields l = is_field (map field_of (drop l.field-index l.fields)) l.key ≡ is_field (map field_of l.fields) l.key
