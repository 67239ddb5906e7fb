use Rattle.std.proofs.Common.{refl, arith}
use Rattle.std.proofs.lemmas.Bool.{lt-ltb}
use Rattle.radio_schedule.proofs.air.Air.heard_at.Goals as goal

pub returns-then-get-self-clause-err : goal.returns-then-get-self-clause-err
returns-then-get-self-clause-err c = rw (← c.self.view_is, lt-ltb c.self.inside.num_bis c.args.bis (omega (arith, c.get.ensures.same))) refl

pub returns-clause-ok : goal.returns-clause-ok
returns-clause-ok c = (grind arith, grind arith)
