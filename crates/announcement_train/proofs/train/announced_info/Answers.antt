use Rattle.announcement_train.proofs.train.announced_info.Goals as goal

pub returns-clause-is : goal.returns-clause-is
returns-clause-is c = cc
