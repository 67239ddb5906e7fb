use Rattle.std.proofs.Common.{rules}
use Rattle.delegator_control.proofs.values.status_after.Goals.{in-Stay, in_default-moves}
use Rattle.delegator_control.proofs.values.status_after.Goals as goal

pub returns : goal.returns
returns c = record { same = λ snapshot. elim c.match-moves-2.branch [ in-Stay w ↦ search rules | in_default-moves w ↦ search rules ] }
