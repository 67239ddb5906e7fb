use Rattle.source_machine.proofs.Prelude.{◌≡◌, ◌+◌, ◌*◌, arith, subst, Lays, LaysOne}
use Rattle.source_machine.proofs.LaidEvents.{lays_none, lays_more, tells_more, tells_none}
use Rattle.source_machine.proofs.stream.Stream.lay.Goals as goal

pub events-init : goal.events-init
events-init c = record {
  lays = lays_none c.args.laying.anchor c.args.laying.iso_us c.args.self.now;
  tells = tells_none c.args.laying.anchor c.args.laying.iso_us c.args.self.now c.args.stale.now;
}

pub events-preserved : goal.events-preserved
events-preserved c =
    let laying = c.args.laying in
    let one : LaysOne (laying.anchor + c.events.n * laying.iso_us) c.events.self c.lay_one.new.self c.events.stale c.lay_one.new.stale =
    subst (λ anchor. LaysOne anchor c.events.self c.lay_one.new.self c.events.stale c.lay_one.new.stale) c.anchor_of.ensures c.in_ok-lay_one.ensures.ok in
    record {
      lays = lays_more laying.anchor laying.iso_us c.events.n c.args.self.now c.events.self c.lay_one.new.self c.events.stale c.lay_one.new.stale c.events.invariant.lays one;
      tells = tells_more laying.anchor laying.iso_us c.events.n c.args.self.now c.events.self c.lay_one.new.self c.args.stale.now c.events.stale c.lay_one.new.stale
          c.events.invariant.lays c.events.invariant.tells one;
    }

pub returns-clause-ok : goal.returns-clause-ok
returns-clause-ok c =
    let all : c.events.n ≡ c.args.laying.count = omega arith in
    subst (λ n. Lays c.args.laying.anchor c.args.laying.iso_us n c.args.self.now c.events.self) all c.events.invariant.lays
