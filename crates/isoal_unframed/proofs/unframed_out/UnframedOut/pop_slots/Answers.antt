use Rattle.isoal_unframed.proofs.Prelude.{refl, sym}
use Rattle.isoal_unframed.proofs.Airs.{sender_left}
use Rattle.isoal_unframed.proofs.unframed_out.UnframedOut.pop_slots.Goals as goal

pub invariant_of-self : goal.invariant_of-self
invariant_of-self c = sender_left _ _ _ _ c.self.invariant c.pop_units.ensures

pub returns : goal.returns
returns c = rw (sym c.self.view_is, c.pop_units.ensures, c.per_event.ensures) refl
