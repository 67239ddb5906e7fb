use Rattle.sync_reference.proofs.times.anchor.Goals as goal

pub returns : goal.returns
returns c = cc
