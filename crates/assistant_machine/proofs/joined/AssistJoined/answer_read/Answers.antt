use Rattle.std.proofs.Common.{◌∷◌, sym, subst}
use Rattle.assistant_machine.specs.Calls.{read}
use Rattle.assistant_machine.specs.State.Assistants.{StandsFor}
use Rattle.assistant_machine.proofs.Standing.{read_stands}
use Rattle.assistant_machine.proofs.joined.AssistJoined.answer_read.Goals as goal

pub returns-clause-stands : goal.returns-clause-stands
returns-clause-stands c = λ other slots calls s.
    subst (StandsFor slots (read c.args.slot c.args.value.now ∷ calls)) (sym (c.keep.ensures.step other))
    (read_stands slots c.args.slot c.args.value.now calls c.args.self.now s)
