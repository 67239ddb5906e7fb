use Rattle.sync_reference.proofs.times.unframed_reference.Goals as goal

pub returns : goal.returns
returns c = cc
