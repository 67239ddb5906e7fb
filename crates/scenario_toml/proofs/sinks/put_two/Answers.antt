use Rattle.scenario_toml.proofs.Growing.{not_two}
use Rattle.scenario_toml.proofs.sinks.put_two.Goals as goal

pub returns-then-values-ne2 : goal.returns-then-values-ne2
returns-then-values-ne2 c = not_two c.args.values.now c.if-values-ne2.true
