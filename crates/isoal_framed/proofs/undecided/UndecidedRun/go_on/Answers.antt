use Rattle.isoal_framed.proofs.Prelude.{arith}
use Rattle.isoal_framed.proofs.Joins.{joined_valid}
use Rattle.isoal_framed.proofs.undecided.UndecidedRun.go_on.Goals as goal

pub returns-then-complete-clause-hands : goal.returns-then-complete-clause-hands
returns-then-complete-clause-hands g c = grind (arith, joined_valid)
