use Rattle.std.proofs.Common.{arith}
use Rattle.isoal_base.proofs.Steps.{stands_new, stands_hear, stands_close}
use Rattle.isoal_base.proofs.laws.receiver_stands.Goals as goal

pub returns-clause-new : goal.returns-clause-new
returns-clause-new g c read stay = stands_new read stay

pub returns-clause-hear : goal.returns-clause-hear
returns-clause-hear g c takes stay calls event kept number octets some stands = grind (arith, stands_hear)

pub returns-clause-close : goal.returns-clause-close
returns-clause-close g c read stay calls event kept some stands = stands_close read stay calls event kept some stands
