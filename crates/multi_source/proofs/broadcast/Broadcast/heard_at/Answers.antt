use Rattle.multi_source.proofs.broadcast.Broadcast.heard_at.Goals as goal

pub returns : goal.returns
returns c = rw (← c.self.view_is) (record { ok = c.heard_at.ensures.ok; err = c.heard_at.ensures.err; works = c.heard_at.ensures.works; checked = c.heard_at.ensures.checked })
