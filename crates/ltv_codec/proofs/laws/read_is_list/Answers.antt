use Rattle.ltv_codec.proofs.Lists.{read_list, list_read}
use Rattle.ltv_codec.proofs.laws.read_is_list.Goals as goal

pub returns : goal.returns
returns c ltvs octets fits = (read_list ltvs octets fits, list_read ltvs octets)
