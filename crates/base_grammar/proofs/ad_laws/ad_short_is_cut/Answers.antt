use Rattle.base_grammar.proofs.Ads.{read_short, short_read}
use Rattle.base_grammar.proofs.ad_laws.ad_short_is_cut.Goals as goal

pub returns : goal.returns
returns c place octets fits = (read_short place octets fits, short_read place octets)
