use Rattle.std.proofs.Common.{◌++◌, ◌∙◌, ap, sym}
use Rattle.relay_role.proofs.Offering.{dropped_next}
use Rattle.relay_role.proofs.flush.drop_all.Goals as goal

pub units-preserved : goal.units-preserved
units-preserved c = record { so_far = dropped_next _ _ _ _ _ _ _ c.units.invariant.so_far c.in-Ok.ensures.ok }

pub returns-in-Err-clause-err : goal.returns-in-Err-clause-err
returns-in-Err-clause-err c =
    let so_far = c.units.invariant.so_far in
    let waiting = so_far.waiting ∙ ap (λ waits. so_far.offered ++ waits) (sym c.in-Err.ensures.waiting) in
    record { offered = so_far.offered; waiting = waiting; offers = so_far.flushes.offers }
