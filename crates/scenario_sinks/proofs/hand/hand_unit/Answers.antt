use Rattle.scenario_sinks.proofs.Prelude.{None, Some}
use Rattle.scenario_sinks.proofs.Handings.{hands_as}
use Rattle.scenario_sinks.proofs.hand.hand_unit.Goals as goal

pub returns-in-Some-clause-hands : goal.returns-in-Some-clause-hands
returns-in-Some-clause-hands g c =
    hands_as c.args.owner c.args.unit.now.bis _ _ (Some c.in-Some.octets.now) _ _ _ _ _ _ c.set.ensures (rw c.in-Some.is at c.octets.ensures) c.hand_valid.ensures.hands

pub returns-in-None-clause-hands : goal.returns-in-None-clause-hands
returns-in-None-clause-hands g c =
    hands_as c.args.owner c.args.unit.now.bis _ _ None _ _ _ _ _ _ c.set.ensures (rw c.in-None.is at c.octets.ensures) (c.hand_lost.ensures _)
