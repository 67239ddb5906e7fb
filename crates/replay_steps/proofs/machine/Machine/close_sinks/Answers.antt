use Rattle.replay_steps.proofs.Prelude.{◌∙◌, arith, refl, airs_of, after_offers, with_closes_below, offers_below}
use Rattle.replay_steps.proofs.Between.{between_next, between_over, between_starts, between_stops, unassigned_next}
use Rattle.replay_steps.proofs.machine.Machine.close_sinks.Goals as goal

pub sinks-init : goal.sinks-init
sinks-init g c = record {
  between = λ steps past components. between_starts steps past c.args.event c.args.self.now c.args.text.now _ components;
  others = λ steps past components place free. refl;
  stage = refl;
}

pub sinks-preserved : goal.sinks-preserved
sinks-preserved g c = record {
  between = λ steps past components.
      let b = c.sinks.invariant.between steps past components in
      between_next steps past c.args.event c.sinks.sink c.sinks.self c.close_sink.new.self c.args.text.now c.sinks.text c.close_sink.new.text _ _ _ b
      (c.in-Ok.ensures.closes (after_offers airs_of (offers_below steps past c.args.event c.sinks.sink) steps) (with_closes_below c.args.event c.sinks.sink past) b.components);
  others = λ steps past components.
      let b = c.sinks.invariant.between steps past components in
      unassigned_next past c.args.outlets.now.items c.sinks.outlets.items c.close_sink.new.outlets.items (c.sinks.invariant.others steps past components)
      (c.close_sink.ensures.others (after_offers airs_of (offers_below steps past c.args.event c.sinks.sink) steps) (with_closes_below c.args.event c.sinks.sink past) b.components);
  stage = c.close_sink.ensures.stage ∙ c.sinks.invariant.stage;
}

pub returns-in-Err-clause-closes : goal.returns-in-Err-clause-closes
returns-in-Err-clause-closes g c steps past components =
    let b = c.sinks.invariant.between steps past components in
    between_stops steps past c.args.event c.sinks.sink c.sinks.self c.close_sink.new.self c.close_sink.new.self c.args.text.now c.sinks.text c.close_sink.new.text _ _ _ c.in-Err.stop
    c.sinks-test.true b
    (c.in-Err.ensures.closes (after_offers airs_of (offers_below steps past c.args.event c.sinks.sink) steps) (with_closes_below c.args.event c.sinks.sink past) b.components)

pub returns-in-Err-clause-others : goal.returns-in-Err-clause-others
returns-in-Err-clause-others g c steps past components =
    let b = c.sinks.invariant.between steps past components in
    unassigned_next past c.args.outlets.now.items c.sinks.outlets.items c.close_sink.new.outlets.items (c.sinks.invariant.others steps past components)
    (c.close_sink.ensures.others (after_offers airs_of (offers_below steps past c.args.event c.sinks.sink) steps) (with_closes_below c.args.event c.sinks.sink past) b.components)

pub returns-clause-closes : goal.returns-clause-closes
returns-clause-closes g c steps past components =
    between_over steps past c.args.event c.sinks.sink c.sinks.self c.args.text.now c.sinks.text _ _ (omega arith) (c.sinks.invariant.between steps past components)
