use Rattle.sync_reference.proofs.times.framed_reference.Goals as goal

pub returns : goal.returns
returns c = cc
