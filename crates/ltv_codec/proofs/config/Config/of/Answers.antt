use Rattle.ltv_codec.proofs.config.Config.of.Goals as goal

pub returns-clause-frequency : goal.returns-clause-frequency
returns-clause-frequency c = rw (c.or.ensures, c.octet_of.ensures, c.octet_of-2.ensures)
