use Rattle.isoal_unframed.proofs.Prelude.{arith, laid_in, IfOk-weaker}
use Rattle.isoal_unframed.proofs.Airs.{newest_is, stands_lay}
use Rattle.isoal_unframed.proofs.Events.{event_count}
use Rattle.isoal_unframed.proofs.unframed_out.UnframedOut.lay_event.Goals as goal

pub returns-clause-count : goal.returns-clause-count
returns-clause-count c = grind (arith, event_count)

pub returns-clause-stands : goal.returns-clause-stands
returns-clause-stands c = grind (arith, stands_lay)

pub returns-clause-laid : goal.returns-clause-laid
returns-clause-laid c = IfOk-weaker c.lay_next.result _ _
    (λ event p info calls stands. newest_is info calls c.args.self.now (laid_in event) c.lay_next.ensures.whole stands p.0) c.lay_next.ensures.ok
