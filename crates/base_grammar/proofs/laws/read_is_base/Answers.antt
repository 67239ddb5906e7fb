use Rattle.base_grammar.proofs.Again.{base_takes, base_again}
use Rattle.base_grammar.proofs.laws.read_is_base.Goals as goal

pub returns : goal.returns
returns c v octets fits = (base_takes octets v fits, base_again v octets)
