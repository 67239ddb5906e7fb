use Rattle.big_info.proofs.time.sync_delay.Goals as goal

pub returns : goal.returns
returns c = cc
