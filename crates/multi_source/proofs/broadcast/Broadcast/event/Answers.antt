use Rattle.multi_source.proofs.Answered.{if_err, if_ok, on_ok}
use Rattle.multi_source.proofs.broadcast.Broadcast.event.Goals as goal

pub returns-clause-ok : goal.returns-clause-ok
returns-clause-ok c = rw (← c.self.view_is) (on_ok c.advance.result c.advance.ensures.permitted c.advance.ensures.advanced (λ stale may goes calls stands. (may.permitted calls stands, goes.stands calls stands)))

pub returns-clause-stale : goal.returns-clause-stale
returns-clause-stale c = rw (← c.self.view_is) (if_ok c.advance.result c.advance.ensures.advanced (λ stale goes. goes.told))

pub returns-clause-cause : goal.returns-clause-cause
returns-clause-cause c = rw (← c.self.view_is) (if_err c.advance.result c.advance.ensures.refused (λ fault refuses. refuses.cause))

pub returns-clause-err : goal.returns-clause-err
returns-clause-err c = rw (← c.self.view_is) (if_err c.advance.result c.advance.ensures.refused (λ fault refuses. refuses.leaves))

pub returns-clause-works : goal.returns-clause-works
returns-clause-works c = rw (← c.self.view_is) (on_ok c.advance.result c.advance.ensures.permitted c.advance.ensures.advanced (λ stale may goes. may.works))
