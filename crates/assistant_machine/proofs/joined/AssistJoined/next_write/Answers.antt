use Rattle.assistant_machine.proofs.Standing.{taken_stands}
use Rattle.assistant_machine.proofs.joined.AssistJoined.next_write.Goals as goal

pub returns-clause-stands : goal.returns-clause-stands
returns-clause-stands c = rw (← c.self.view_is) (taken_stands c.pop_front.result c.pop_front.new.self.items _ c.pop_front.ensures.items)
