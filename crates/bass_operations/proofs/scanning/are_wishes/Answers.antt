use Rattle.bass_operations.proofs.Prelude.{◌∙◌, arith}
use Rattle.bass_operations.proofs.Loops.{are_next, are_short, are_end}
use Rattle.bass_operations.proofs.scanning.are_wishes.Goals as goal

pub returns-in_default : goal.returns-in_default
returns-in_default c = are_short c.args.count c.subgroups.counter c.subgroups.rest.now _ c.subgroups-test.true c.in_default.ensures c.subgroups.invariant

pub subgroups-preserved : goal.subgroups-preserved
subgroups-preserved c = grind (arith, are_next)

pub returns : goal.returns
returns c = c.is_empty.ensures ∙ are_end c.args.count c.subgroups.counter c.subgroups.rest.now _ c.subgroups-test.false c.subgroups.invariant
