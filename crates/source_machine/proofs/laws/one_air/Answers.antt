use Rattle.source_machine.proofs.Prelude.{arith}
use Rattle.source_machine.proofs.AirLaws.{is_checked}
use Rattle.source_machine.proofs.Framings.{are_airs, airs_only}
use Rattle.source_machine.proofs.laws.one_air.Goals as goal

pub returns-clause-checked : goal.returns-clause-checked
returns-clause-checked c = λ group setup of_group. is_checked group setup.info of_group

pub returns-clause-same : goal.returns-clause-same
returns-clause-same c = grind (arith, airs_only)

pub returns-clause-some : goal.returns-clause-some
returns-clause-some c = λ setup calls checked. are_airs setup calls checked

pub returns-clause-only : goal.returns-clause-only
returns-clause-only c = λ setup calls airs checked are. airs_only setup calls airs checked are
