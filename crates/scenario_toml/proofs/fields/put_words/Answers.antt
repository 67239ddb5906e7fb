use Rattle.scenario_toml.proofs.Prelude.{◌∙◌}
use Rattle.scenario_toml.proofs.Growing.{words_goes}
use Rattle.scenario_toml.proofs.fields.put_words.Goals as goal

pub keys-preserved : goal.keys-preserved
keys-preserved c = c.keys.invariant ∙ words_goes c.args.keys.now c.keys.key-index _ _ _ _ c.keys-test.true c.in_default.ensures
