use Rattle.big_info.proofs.Encodings.{one_encoding}
use Rattle.big_info.proofs.laws.info_has_one_encoding.Goals as goal

pub returns : goal.returns
returns c = λ info one other p q h k. one_encoding info h.0 k.0 one other p q h.1 k.1
