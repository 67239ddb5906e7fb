use Rattle.std.proofs.Common.{ap, sym, subst, ◌∙◌}
use Rattle.stream_c.specs.Streams.{KeptStands, units_kept}
use Rattle.stream_c.proofs.stream.vm_stream_reserve.Goals as goal

pub returns-in-Ok-clause-room : goal.returns-in-Ok-clause-room
returns-in-Ok-clause-room c = λ _. c.in-Ok.ensures.ok

pub returns-in-Ok-clause-stands : goal.returns-in-Ok-clause-stands
returns-in-Ok-clause-stands c = λ stay calls stands. subst (KeptStands stay calls) c.lend.ensures.value stands

pub returns-in-Ok-clause-units : goal.returns-in-Ok-clause-units
returns-in-Ok-clause-units c = c.in-Ok.ensures.waiting ∙ sym (ap units_kept c.lend.ensures.value)

pub returns-in-Err-clause-stands : goal.returns-in-Err-clause-stands
returns-in-Err-clause-stands c = λ stay calls stands. subst (KeptStands stay calls) c.lend.ensures.value stands

pub returns-in-Err-clause-units : goal.returns-in-Err-clause-units
returns-in-Err-clause-units c = c.in-Err.ensures.waiting ∙ sym (ap units_kept c.lend.ensures.value)
