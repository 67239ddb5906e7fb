use Rattle.scenario_toml.proofs.Prelude.{◌≡◌, drop, texts_of, is_among}
use Rattle.scenario_toml.proofs.tables.is_among.Given as goal

abbrev pub invariant-others : goal.invariant-others
invariant-others l = is_among (texts_of (drop l.known-index l.others)) l.key ≡ is_among (texts_of l.others) l.key
