use Rattle.base_grammar.proofs.Ads.{listed_read, ends_early}
use Rattle.base_grammar.proofs.ad.listed.Goals as goal

pub returns-in-Err-ZeroLength-clause-whole : goal.returns-in-Err-ZeroLength-clause-whole
returns-in-Err-ZeroLength-clause-whole c = listed_read c.in-Err-ZeroLength.place c.args.ads.now (rw c.in-Err-ZeroLength.field-0-is at c.in-Err-ZeroLength.ensures.cut)

pub returns-in-Err-ZeroLength-clause-list : goal.returns-in-Err-ZeroLength-clause-list
returns-in-Err-ZeroLength-clause-list c = ends_early c.in-Err-ZeroLength.place c.args.ads.now (rw c.in-Err-ZeroLength.field-0-is at c.in-Err-ZeroLength.ensures.cut)
