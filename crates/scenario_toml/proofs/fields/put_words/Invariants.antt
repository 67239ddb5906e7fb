use Rattle.scenario_toml.proofs.Prelude.{◌≡◌, drop, map, table_view, after, words, field_of}
use Rattle.scenario_toml.proofs.fields.put_words.Given as goal

abbrev pub invariant-keys : goal.invariant-keys
invariant-keys l =
    after l.initial.text (words (map field_of l.keys) (table_view l.table))
    ≡ after l.text (words (map field_of (drop l.key-index l.keys)) (table_view l.table))
