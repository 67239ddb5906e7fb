use Rattle.std.proofs.Common.{◌∷◌, sym, subst}
use Rattle.assistant_machine.specs.Calls.{notified}
use Rattle.assistant_machine.specs.State.Assistants.{StandsFor}
use Rattle.assistant_machine.proofs.Standing.{notice_stands}
use Rattle.assistant_machine.proofs.joined.AssistJoined.notice.Goals as goal

pub returns-clause-stands : goal.returns-clause-stands
returns-clause-stands c = λ other slots calls s.
    subst (StandsFor slots (notified c.args.slot c.args.value.now ∷ calls)) (sym (c.hear.ensures.step other))
    (notice_stands slots c.args.slot c.args.value.now calls c.args.self.now s)
