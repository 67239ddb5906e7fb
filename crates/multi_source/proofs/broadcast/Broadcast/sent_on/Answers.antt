use Rattle.multi_source.proofs.broadcast.Broadcast.sent_on.Goals as goal

pub returns : goal.returns
returns c = rw (← c.self.view_is) (record { sent = c.sent_on.ensures.sent; on_air = c.sent_on.ensures.on_air; none = c.sent_on.ensures.none; works = c.sent_on.ensures.works; checked = c.sent_on.ensures.checked })
