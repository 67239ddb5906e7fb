use Rattle.base_grammar.proofs.Prelude.{arith}
use Rattle.base_grammar.proofs.parts.check_octets.Goals as goal

pub returns-clause-octets : goal.returns-clause-octets
returns-clause-octets c = λ i. omega (arith, c.type_inv.from i)
