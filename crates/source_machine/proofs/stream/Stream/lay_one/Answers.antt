use Rattle.source_machine.proofs.Prelude.{arith}
use Rattle.source_machine.proofs.LaidEvents.{lays_one}
use Rattle.source_machine.proofs.Lists.{on_ok}
use Rattle.source_machine.proofs.stream.Stream.lay_one.Goals as goal

pub returns-clause-ok : goal.returns-clause-ok
returns-clause-ok c =
    let room = c.self.invariant.room in
    rw (← c.self.view_is, c.keep_event.ensures, room) (on_ok c.tell_stale.result c.tell_stale.ensures
    (lays_one c.args.anchor c.self.inside.bis c.self.inside.sender c.lay.new.self c.self.inside.laid.items
    (record { pdus = c.lay.new.pdus; stale = c.in_ok-times.times }) c.args.stale.now c.tell_stale.new.stale
    c.lay.ensures.info (omega (arith, c.self.invariant.within)) c.in_ok-times.ensures.laid))
