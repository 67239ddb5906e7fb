use Rattle.big_info.proofs.Prelude.{refl, NoFault, arith}
use Rattle.big_info.proofs.BoundsOf.{bounds_of}
use Rattle.big_info.proofs.Order.{first_found, none_found, no_fault_within}
use Rattle.big_info.proofs.group.check_group_within.Goals as goal

-- No fault holds within the limits, so none within the widest, and the numbers keep to their bounds.
pub invariant_of-result : goal.invariant_of-result
invariant_of-result c =
    let widest : NoFault 31 c.args.info.now =
    no_fault_within c.args.limits.horizon c.args.info.now c.requires.horizon c.in-None.ensures.none in
    record { widths = c.requires.widths; no_fault = widest; bounds = bounds_of c.args.info.now widest }

pub returns-in-None-clause-ok : goal.returns-in-None-clause-ok
returns-in-None-clause-ok c = (refl, none_found c.args.limits.horizon c.args.info.now c.in-None.ensures.none)

pub returns-in-Some-clause-err : goal.returns-in-Some-clause-err
returns-in-Some-clause-err c = grind (arith, first_found)
