use Rattle.scenario_sinks.proofs.Prelude.{Ok, ◌∙◌}
use Rattle.scenario_sinks.proofs.Handings.{hands_more, hands_ends}
use Rattle.scenario_sinks.proofs.hand.hand_units.Goals as goal

pub units-preserved : goal.units-preserved
units-preserved g c =
    let h = hands_more c.args.owner c.args.units.now c.units.unit-index c.unit-item.result c.units-test.true c.unit-item.is
    c.args.text.now c.units.text c.hand_unit.new.text _ _ _ (Ok tt) c.units.invariant.text c.units.invariant.boxes c.in-Ok.ensures.hands in
    record {
      text = h.0;
      boxes = h.1;
      others = λ other apart. c.hand_unit.ensures.others other apart ∙ c.units.invariant.others other apart;
    }

pub returns-in-Err-clause-hands : goal.returns-in-Err-clause-hands
returns-in-Err-clause-hands g c =
    hands_ends c.args.owner c.args.units.now c.units.unit-index c.unit-item.result c.units-test.true c.unit-item.is
    c.args.text.now c.units.text c.hand_unit.new.text _ _ _ c.in-Err.stop c.units.invariant.text c.units.invariant.boxes c.in-Err.ensures.hands

pub returns-in-Err-clause-others : goal.returns-in-Err-clause-others
returns-in-Err-clause-others g c = λ other apart. c.hand_unit.ensures.others other apart ∙ c.units.invariant.others other apart
