use Rattle.relay_role.proofs.Offering.{offered_next}
use Rattle.relay_role.proofs.flush.offer_all.Goals as goal

pub units-preserved : goal.units-preserved
units-preserved c = record { so_far = offered_next _ _ _ _ _ _ _ _ _ _ c.units.invariant.so_far c.in-Ok.ensures.ok }
