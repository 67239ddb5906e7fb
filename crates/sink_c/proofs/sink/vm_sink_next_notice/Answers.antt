use Rattle.sink_c.proofs.Prelude.{◌≡◌, ◌≤◌, length, true, false, Some, sym, ap, subst, ◌∙◌, arith, steps_of, KeptStands}
use Rattle.sink_c.specs.Sinks.{notices_of}
use Rattle.sink_c.proofs.Lengths.{notice_short}
use Rattle.sink_c.proofs.sink.vm_sink_next_notice.Goals as goal

-- a notice has no more octets than the room
pub returns-clause-either : goal.returns-clause-either
returns-clause-either c = λ setup calls stands _ _.
    let is : notices_of setup (steps_of calls) ≡ Some c.in-Some.notice =
    sym (c.next_notice.ensures.answer setup calls (subst (KeptStands setup calls) c.lend.ensures.value stands)) ∙ c.in-Some.is in
    let few : length c.in-Some.notice.value ≤ 512 = notice_short setup (steps_of calls) c.in-Some.notice is in
    let same : length c.as_slice.result.now ≡ length c.in-Some.notice.value = ap length c.as_slice.ensures in
    let put : c.put.result ≡ true = c.put.ensures.fits (omega (arith, few, same, c.if-room-lt512.false)) in
    let not : c.put.result ≡ false = c.if-put.false in
    absurd (Prim.grind (arith, put, not))
