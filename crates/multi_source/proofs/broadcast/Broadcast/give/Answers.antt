use Rattle.multi_source.proofs.broadcast.Broadcast.give.Goals as goal

pub returns : goal.returns
returns c = rw (← c.self.view_is) (record { identity = c.give.ensures.identity; announced = c.give.ensures.announced; setup = c.give.ensures.setup; ok = c.give.ensures.ok; accepted = c.give.ensures.accepted; err = c.give.ensures.err; cause = c.give.ensures.cause; works = c.give.ensures.works; checked = c.give.ensures.checked })
