use Rattle.big_info.proofs.schedule.horizon.Goals as goal

pub returns : goal.returns
returns c = cc
