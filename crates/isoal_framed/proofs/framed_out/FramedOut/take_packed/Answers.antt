use Rattle.isoal_framed.proofs.Prelude.{refl, sym}
use Rattle.isoal_framed.proofs.framed_out.FramedOut.take_packed.Goals as goal

pub returns-clause-left : goal.returns-clause-left
returns-clause-left c = rw (sym c.self.view_is, c.pop_units.ensures) refl
