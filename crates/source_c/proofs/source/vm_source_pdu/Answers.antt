use Rattle.std.proofs.Common.{ℕ, ◌≡◌, ◌<◌, ◌≤◌, ◌+◌, ◌-◌, List, length, None, arith, ap, sym, ◌∙◌, subst}
use Rattle.std.proofs.lemmas.Bool.Decides.{nat_tests}
use Rattle.radio_schedule.specs.PayloadNumber.{payload_number}
use Rattle.source_machine.proofs.Citable.{airs_exist}
use Rattle.source_machine.specs.Airs.{AreAirs, airs_of}
use Rattle.source_machine.specs.Calls.{Call, Setup, next_of}
use Rattle.source_machine.specs.Faults.{air_fault}
use Rattle.source_c.specs.Sources.{KeptStands, Keeps}
use Rattle.source_c.proofs.PduLengths.{pdu_is_short}
use Rattle.source_c.proofs.source.vm_source_pdu.Goals as goal

pub returns-else-put-clause-enough : goal.returns-else-put-clause-enough
returns-else-put-clause-enough c = λ it calls stands enough _.
    let machine = c.lend-machine.result.now in
    let kept : Keeps it calls machine = subst (KeptStands it calls) c.lend-machine.ensures.value stands in
    let setup : Setup = machine.source.setup in
    let checked = c.in-Ok.ensures.checked in
    let are : AreAirs setup calls (airs_of setup calls) = airs_exist setup calls checked in
    let found = c.in-Ok.ensures.ok calls (airs_of setup calls) kept.stands are in
    let short : length c.in-Ok.pdu.now ≤ setup.info.max_pdu + 2 = pdu_is_short setup calls (airs_of setup calls) _ _ _ c.in-Ok.pdu.now checked are found.1 in
    let most : setup.info.max_pdu ≤ 251 = checked.bounds.max_pdu_greatest in
    let fits = c.put.ensures.fits (omega (arith, short, most, enough)) in
    absurd cc (fits, c.if-put.false)

-- a subevent in which something is heard is one of the group
has_subevent : (setup : Setup) (calls : List Call) (back bis subevent : ℕ) → air_fault setup calls back bis subevent ≡ None → subevent < setup.info.nse
has_subevent setup calls back bis subevent none = grind (arith, nat_tests)

pub returns-then-put-clause-number : goal.returns-then-put-clause-number
returns-then-put-clause-number c it calls airs stands are done =
    let machine = c.lend-machine.result.now in
    let kept : Keeps it calls machine = subst (KeptStands it calls) c.lend-machine.ensures.value stands in
    let next : c.next_event.result ≡ next_of it.setup calls = c.next_event.ensures.calls calls kept.stands ∙ ap (λ setup. next_of setup calls) kept.setup in
    let event : c.saturating_sub-event.result ≡ next_of it.setup calls - 1 - c.args.back = omega (arith, c.saturating_sub-event.ensures, c.from.ensures, next) in
    let heard = c.in-Ok.ensures.ok calls airs kept.stands (subst (λ setup. AreAirs setup calls airs) (sym kept.setup) are) in
    let few = has_subevent machine.source.setup calls c.args.back _ c.args.subevent heard.0 in
    c.number_of-payload.ensures (rw c.group.ensures few)
    ∙ ap (λ info. payload_number info c.saturating_sub-event.result c.args.subevent) (c.group.ensures ∙ ap (λ (setup : Setup). setup.info) kept.setup)
    ∙ ap (λ at. payload_number it.setup.info at c.args.subevent) event
