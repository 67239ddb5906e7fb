use Rattle.base_grammar.proofs.Prelude.{arith, endpoint}
use Rattle.base_grammar.proofs.Again.{base_takes}
use Rattle.base_grammar.proofs.reading.read_whole.Goals as goal

pub new-requires : goal.new-requires
new-requires c = (base_takes c.args.from.now (endpoint c.in_ok-delay.delay c.in_ok-delay.subgroups.items) (λ i. omega (arith, c.type_inv.from i)) c.in_ok-delay.ensures).base
