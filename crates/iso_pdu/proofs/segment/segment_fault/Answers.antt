use Rattle.iso_pdu.proofs.Prelude.{le-ltb, lt-ltb}
use Rattle.iso_pdu.proofs.segment.segment_fault.Goals as goal

pub returns-then-count-lt3 : goal.returns-then-count-lt3
returns-then-count-lt3 c = rw (le-ltb c.args.left c.args.count c.if-left-count.false, c.if-header-eq0.true, lt-ltb c.args.count 3 c.if-count-lt3.true)
