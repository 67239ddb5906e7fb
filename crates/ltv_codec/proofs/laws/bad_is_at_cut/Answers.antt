use Rattle.ltv_codec.proofs.Lists.{read_bad, bad_read}
use Rattle.ltv_codec.proofs.laws.bad_is_at_cut.Goals as goal

pub returns : goal.returns
returns c bad octets fits = (read_bad bad octets fits, bad_read bad octets)
