use Rattle.base_grammar.proofs.Ads.{read_ads, ads_read_so}
use Rattle.base_grammar.proofs.ad_laws.ad_list_is_read.Goals as goal

pub returns : goal.returns
returns c ads octets fits = (read_ads ads octets fits, ads_read_so ads octets)
