use Rattle.assistant_machine.proofs.joined.AssistJoined.put_operation.Goals as goal

pub returns-clause-ok : goal.returns-clause-ok
returns-clause-ok c = rw (← c.in_ok-octets.ensures.encoded) c.put.ensures.ok

pub returns-clause-stands : goal.returns-clause-stands
returns-clause-stands c = rw (← c.in_ok-octets.ensures.encoded) c.put.ensures.stands
