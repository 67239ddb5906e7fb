use Rattle.sink_c.proofs.units.vm_sink_reserve.Goals as goal

pub returns-in-Ok-clause-room : goal.returns-in-Ok-clause-room
returns-in-Ok-clause-room c = λ _. c.in-Ok.ensures.ok
