use Rattle.source_machine.proofs.Prelude.{arith, refl, sym, Lays}
use Rattle.source_machine.proofs.LaidEvents.{all_tell, all_tell_none, grows_none}
use Rattle.source_machine.proofs.Lists.{each_done, on_err, rest_same, zip_all, zip_broken}
use Rattle.source_machine.proofs.stream.lay_each.Goals as goal

pub streams-init : goal.streams-init
streams-init c = record {
  done = λ k none below. absurd (omega (arith, below));
  rest = λ k none past. refl;
  told = all_tell_none c.args.laying.anchor c.args.laying.iso_us c.args.laying.count c.args.streams.now c.args.stale.now;
}

pub streams-preserved : goal.streams-preserved
streams-preserved c =
    let laying = c.args.laying in
    record {
      done = each_done (Lays laying.anchor laying.iso_us laying.count) c.args.streams.now c.streams.streams c.streams.stream-index c.lay.new.self
          (omega arith) c.streams.invariant.done c.streams.invariant.rest c.stream-item.result c.in_ok-lay.ensures.ok;
      rest = rest_same c.args.streams.now c.streams.streams c.streams.stream-index c.lay.new.self c.streams.invariant.rest;
      told = all_tell laying.anchor laying.iso_us laying.count c.args.streams.now c.streams.streams c.streams.stream-index c.stream-item.result
          c.args.stale.now c.streams.stale c.lay.new.stale (omega arith) (omega arith) c.streams.invariant.rest c.streams.invariant.told c.in_ok-lay.ensures.told;
    }

pub returns-clause-ok : goal.returns-clause-ok
returns-clause-ok c = zip_all (Lays c.args.laying.anchor c.args.laying.iso_us c.args.laying.count) c.args.streams.now c.streams.streams (sym c.streams.auto.streams)
    (λ k none below. c.streams.invariant.done k none (omega arith))

pub returns-in_err-lay-clause-err : goal.returns-in_err-lay-clause-err
returns-in_err-lay-clause-err c = grind (arith, on_err, zip_broken, grows_none)
