use Rattle.scenario_toml.proofs.Prelude.{◌≡◌, map, members_view, field_of, texts_of, only_has}
use Rattle.scenario_toml.proofs.tables.only_has.Given as goal

abbrev pub invariant-members : goal.invariant-members
invariant-members l =
    (goal.iterator-members).can_next l.key-iterator × (goal.iterator-members).is_finite l.key-iterator
    × (only_has (map field_of l.fields) (texts_of l.others) (members_view l.key-iterator)
    ≡ only_has (map field_of l.fields) (texts_of l.others) (members_view l.table.entries))
