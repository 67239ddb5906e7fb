use Rattle.group_sink.proofs.streams.skip_by.Goals as goal

pub returns : goal.returns
returns c = c.close_by-refused.ensures.step
