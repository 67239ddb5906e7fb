use Rattle.big_info.proofs.Prelude.{arith}
use Rattle.big_info.proofs.Order.{no_fault}
use Rattle.big_info.proofs.group.first.Goals as goal

pub returns-clause-none : goal.returns-clause-none
returns-clause-none c = no_fault c.args.greatest c.args.info.now c.loop-fault.fault-index c.loop-fault.invariant.1 (omega arith)
