use Rattle.scenario_sinks.proofs.Prelude.{refl, [], ◌∷◌, valid, units_for}
use Rattle.scenario_sinks.proofs.Handings.{hands_valid}
use Rattle.scenario_sinks.proofs.hand.hand_valid.Goals as goal

pub returns-in-Err-clause-hands : goal.returns-in-Err-clause-hands
returns-in-Err-clause-hands g c = hands_valid c.args.owner c.args.bis c.args.time.now c.args.octets.now c.args.text.now _ _ c.in-Err.stop c.in-Err.ensures.takes

pub returns-in-Err-put_valid-clause-hands : goal.returns-in-Err-put_valid-clause-hands
returns-in-Err-put_valid-clause-hands g c = record {
  done = units_for c.args.owner (valid c.args.bis c.args.time.now c.args.octets.now ∷ []);
  rest = [];
  split = refl;
  boxes = c.in-Ok.ensures.takes;
}
