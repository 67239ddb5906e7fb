use Rattle.base_grammar.proofs.Firsts.{read_bad, bad_read}
use Rattle.base_grammar.proofs.laws.fault_is_at_cut.Goals as goal

pub returns : goal.returns
returns c fault octets = (read_bad fault octets, bad_read fault octets)
