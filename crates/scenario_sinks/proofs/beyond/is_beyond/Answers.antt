use Rattle.scenario_sinks.proofs.Prelude.{arith, refl}
use Rattle.scenario_sinks.proofs.Beyonds.{beyond_next, beyond_found, beyond_none}
use Rattle.scenario_sinks.proofs.beyond.is_beyond.Goals as goal

pub places-init : goal.places-init
places-init c = refl

pub places-preserved : goal.places-preserved
places-preserved c = beyond_next c.args.num_bis c.args.which c.places.place c.is_beyond_at.result c.places.invariant c.is_beyond_at.ensures c.if-is_beyond_at.false

pub returns-then-is_beyond_at : goal.returns-then-is_beyond_at
returns-then-is_beyond_at c = beyond_found c.args.num_bis c.args.which c.places.place c.is_beyond_at.result c.places.invariant c.is_beyond_at.ensures c.if-is_beyond_at.true (omega arith)

pub returns : goal.returns
returns c = beyond_none c.args.num_bis c.args.which c.places.place c.places.invariant (omega arith)
