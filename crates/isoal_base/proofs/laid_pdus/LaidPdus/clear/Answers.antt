use Rattle.std.proofs.Common.{refl}
use Rattle.isoal_base.proofs.laid_pdus.LaidPdus.clear.Goals as goal

pub returns : goal.returns
returns c = refl
