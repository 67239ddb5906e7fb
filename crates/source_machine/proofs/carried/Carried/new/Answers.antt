use Rattle.source_machine.proofs.Prelude.{arith, refl, length-set, ◌∙◌, ◌/◌, ◌%◌, ahead_of}
use Rattle.source_machine.proofs.Lent.{entry_set}
use Rattle.source_machine.proofs.carried.Carried.new.Goals as goal

pub subevents-preserved : goal.subevents-preserved
subevents-preserved c = record {
  sizes = (length-set c.subevents.aheads _ _ ∙ c.subevents.invariant.sizes.0, length-set c.subevents.places _ _ ∙ c.subevents.invariant.sizes.1);
  aheads = entry_set (λ s. ahead_of c.args.group.now.info (s / c.args.group.now.info.bn)) c.subevents.aheads c.subevents.subevent _ _
      (omega (arith, c.subevents.invariant.sizes.0, c.subevents-test.true, c.args.group.now.widths.nse)) c.from.ensures c.events_ahead.ensures.ahead
      c.subevents.invariant.aheads;
  places = entry_set (λ s. s % c.args.group.now.info.bn) c.subevents.places c.subevents.subevent _ _
      (omega (arith, c.subevents.invariant.sizes.1, c.subevents-test.true, c.args.group.now.widths.nse)) c.from-in-subevents.ensures refl
      c.subevents.invariant.places;
}
