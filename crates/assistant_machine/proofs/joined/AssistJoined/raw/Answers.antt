use Rattle.assistant_machine.proofs.joined.AssistJoined.raw.Goals as goal

pub returns-clause-ok : goal.returns-clause-ok
returns-clause-ok c = rw (← c.in_ok-octets.ensures) c.put.ensures.ok

pub returns-clause-stands : goal.returns-clause-stands
returns-clause-stands c = rw (← c.in_ok-octets.ensures) c.put.ensures.stands
