use Rattle.radio_schedule.proofs.air.place.Goals as goal

pub returns-clause-place : goal.returns-clause-place
returns-clause-place c = cc
