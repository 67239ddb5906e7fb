use Rattle.sync_reference.proofs.times.render.Goals as goal

pub returns : goal.returns
returns c = cc
