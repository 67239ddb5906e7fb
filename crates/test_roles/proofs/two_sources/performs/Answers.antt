use Rattle.test_roles.proofs.TwoSources.{on_ok, stands}
use Rattle.test_roles.proofs.two_sources.performs.Goals as goal

pub returns-clause-sends : goal.returns-clause-sends
returns-clause-sends c = on_ok c.event.result c.event.ensures.ok
    (λ ok. let after = (ok c.requires.sending.0 c.requires.sending.1 c.requires.sending.2).1 in stands _ after.source after.source_is)

pub returns-clause-heard : goal.returns-clause-heard
returns-clause-heard c = on_ok c.event.result c.event.ensures.ok
    (λ ok. let after = (ok c.requires.sending.0 c.requires.sending.1 c.requires.sending.2).1 in stands _ after.begun after.begun_is)
