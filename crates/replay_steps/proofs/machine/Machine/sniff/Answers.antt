use Rattle.replay_steps.proofs.Prelude.{arith, refl}
use Rattle.replay_steps.proofs.machine.Machine.sniff.Goals as goal

pub returns-in_default : goal.returns-in_default
returns-in_default c starts version steps stands e = (rw (e, c.in_default.ensures steps stands.sources) refl, stands, refl)

pub returns-in-Ok-put_pdu : goal.returns-in-Ok-put_pdu
returns-in-Ok-put_pdu c starts version steps stands e =
    grind (arith, c.in-Some.ensures, c.in-Ok.ensures.ok, c.event_back-event.ensures.event, c.in-Ok-put_pdu.ensures.ok, c.get.ensures.same)

pub returns-in-Err : goal.returns-in-Err
returns-in-Err c starts version steps stands e = grind (arith, c.in-Some.ensures, c.in-Err.ensures.err)
