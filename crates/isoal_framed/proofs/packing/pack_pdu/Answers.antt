use Rattle.isoal_framed.proofs.Prelude.{◌≡◌, List, length, length-append, ◌∙◌, ap, subst, true, false, arith, on_ok_weaker, pdus_ended, Act, Placed}
use Rattle.isoal_framed.proofs.Packings.{At, goes_on_is, ended_is}
use Rattle.isoal_framed.proofs.packing.pack_pdu.Goals as goal

pub acts-preserved : goal.acts-preserved
acts-preserved c =
    let placed : Placed c.args.anchor c.args.queue.now.items c.acts.packing c.put_next.new.packing true =
    subst (Placed c.args.anchor c.args.queue.now.items c.acts.packing c.put_next.new.packing) c.if-branch.true c.in_ok-put_next.ensures.placed in
    record {
      within = c.put_next.ensures.within;
      partly = c.put_next.ensures.partly;
      going = λ units earlier acts pdus queue_is start.
          (let was : (own : List Act) × (pdus_ended own ≡ pdus_ended acts) × At c.args.max_pdu units c.args.anchor earlier own pdus c.acts.packing =
          c.acts.invariant.going units earlier acts pdus queue_is start in
          let more : (own : List Act) × (pdus_ended own ≡ pdus_ended was.0) × At c.args.max_pdu units c.args.anchor earlier own pdus c.put_next.new.packing =
          goes_on_is c.args.max_pdu units c.args.queue.now.items c.args.anchor earlier was.0 pdus c.acts.packing c.put_next.new.packing
          queue_is c.acts.invariant.partly was.2 placed in
          (more.0, more.1 ∙ was.1, more.2));
    }

pub returns-clause-count : goal.returns-clause-count
returns-clause-count c = on_ok_weaker c.push.result (λ is. ap length is ∙ length-append _ _) c.push.ensures.ok

pub returns-clause-packed : goal.returns-clause-packed
returns-clause-packed c units earlier acts queue_is start =
    let placed : Placed c.args.anchor c.args.queue.now.items c.acts.packing c.put_next.new.packing false =
    subst (Placed c.args.anchor c.args.queue.now.items c.acts.packing c.put_next.new.packing) c.if-branch.false c.in_ok-put_next.ensures.placed in
    let was : (own : List Act) × (pdus_ended own ≡ pdus_ended acts) × At c.args.max_pdu units c.args.anchor earlier own c.args.pdus.now c.acts.packing =
    c.acts.invariant.going units earlier acts c.args.pdus.now queue_is start in
    on_ok_weaker c.push.result (grind (arith, ended_is)) c.push.ensures.ok
