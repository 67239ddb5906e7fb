use Rattle.big_info.proofs.Fields.{one_info}
use Rattle.big_info.proofs.laws.octets_are_of_one_info.Goals as goal

pub returns : goal.returns
returns c = λ one other octets h k. one_info one other h.0 k.0 octets h.1 k.1
