use Rattle.std.proofs.Common.{refl}
use Rattle.relay_role.proofs.Offering.{on_err}
use Rattle.relay_role.proofs.relay.Relay.flush.Goals as goal

pub returns-in-Some-clause-ok : goal.returns-in-Some-clause-ok
returns-in-Some-clause-ok c = rw (← c.self.view_is) (rw c.in-Some.is c.offer_all.ensures.ok)

pub returns-in-Some-clause-err : goal.returns-in-Some-clause-err
returns-in-Some-clause-err c =
    rw (← c.self.view_is)
    (rw c.in-Some.is (on_err c.offer_all.result c.offer_all.ensures.err (λ some. record { bis = refl; to = refl; offers = some })))
