use Rattle.isoal_framed.proofs.Prelude.{arith}
use Rattle.isoal_framed.proofs.Joins.{start_hands, hands_then, caused_then}
use Rattle.isoal_framed.proofs.undecided.UndecidedRun.start.Goals as goal

pub returns-clause-hands : goal.returns-clause-hands
returns-clause-hands g c = grind (arith, start_hands, hands_then)

pub returns-clause-cause : goal.returns-clause-cause
returns-clause-cause g c = search caused_then
