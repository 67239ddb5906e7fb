use Rattle.recurring_lines.proofs.FrequentLines.{air_read}
use Rattle.recurring_lines.proofs.frequent.of_air.Goals as goal

pub returns : goal.returns
returns c octets =
    air_read c.args.words.now c.behind_first-words.result c.air.new.words _ c.has_more.result c.behind_first-words.ensures
    (c.in_ok-frequent.ensures.gives octets) c.has_more.ensures c.if-has_more.false
