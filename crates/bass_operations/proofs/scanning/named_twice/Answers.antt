use Rattle.bass_operations.proofs.Prelude.{◌-◌, ◌+◌, arith}
use Rattle.bass_operations.proofs.Loops.{twice_few, twice_here, twice_next, twice_end}
use Rattle.bass_operations.proofs.scanning.named_twice.Goals as goal

pub returns-then-count-lt2 : goal.returns-then-count-lt2
returns-then-count-lt2 c = twice_few 31 1 c.args.count c.args.octets.now (omega (arith, c.if-count-lt2.true))

pub returns-then-times_named-gt1 : goal.returns-then-times_named-gt1
returns-then-times_named-gt1 c = twice_here (32 - c.streams.bis) c.streams.bis c.args.count c.args.octets.now _ (omega arith) (omega arith) c.streams.invariant

pub streams-preserved : goal.streams-preserved
streams-preserved c = twice_next (32 - c.streams.bis) (32 - (c.streams.bis + 1)) c.streams.bis c.args.count c.args.octets.now _ (omega arith) (omega arith) c.streams.invariant

pub returns : goal.returns
returns c = twice_end (32 - c.streams.bis) c.streams.bis c.args.count c.args.octets.now _ (omega arith) c.streams.invariant
