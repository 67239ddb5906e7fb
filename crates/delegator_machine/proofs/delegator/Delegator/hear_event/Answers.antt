use Rattle.delegator_machine.proofs.Prelude.{refl, sym, subst, StandsFor}
use Rattle.delegator_machine.proofs.Hearing.{stands_heard}
use Rattle.delegator_machine.proofs.delegator.Delegator.hear_event.Goals as goal

pub returns-clause-stands : goal.returns-clause-stands
returns-clause-stands g c setup calls stands =
    stands_heard setup c.args.event c.args.bis (g.E.StreamEvent.pdus c.args.sent.now) calls _ _ refl c.hear_event.ensures
    (subst (StandsFor setup calls) (sym c.self.view_is) stands)
