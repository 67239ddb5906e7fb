use Rattle.group_sink.proofs.Prelude.{length-set, ◌∙◌, arith, payload_number}
use Rattle.group_sink.proofs.Offsets.{entry_set}
use Rattle.group_sink.proofs.numbers.offsets_of.Goals as goal

pub subevents-preserved : goal.subevents-preserved
subevents-preserved c = record {
  size = length-set c.subevents.offsets _ _ ∙ c.subevents.invariant.size;
  done = entry_set (λ s. payload_number c.args.group.now.info 0 s) c.subevents.offsets c.subevents.subevent _ _
      (omega (arith, c.subevents.invariant.size, c.subevents-test.true, c.args.group.now.widths.nse)) (omega (arith, c.from.ensures))
      c.offset.ensures c.subevents.invariant.done;
}

pub bounds-offsets-from : goal.bounds-offsets-from
bounds-offsets-from c = omega (arith, c.from.ensures, c.subevents-test.true, c.args.group.now.widths.nse)
