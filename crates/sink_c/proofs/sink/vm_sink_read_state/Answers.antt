use Rattle.sink_c.proofs.Prelude.{◌≡◌, ◌≤◌, length, true, false, ap, subst, arith, steps_of, KeptStands}
use Rattle.delegator_history.specs.States.{snapshot_of}
use Rattle.delegator_history.specs.Values.{value_at}
use Rattle.sink_c.proofs.Lengths.{value_short}
use Rattle.sink_c.proofs.sink.vm_sink_read_state.Goals as goal

-- a value has no more octets than the room
pub returns-in-Ok-clause-enough : goal.returns-in-Ok-clause-enough
returns-in-Ok-clause-enough c = λ setup calls stands enough _.
    let is : length c.in-Ok.value ≡ length (value_at (snapshot_of setup (steps_of calls)) c.args.slot) =
    ap length (c.in-Ok.ensures.value setup calls (subst (KeptStands setup calls) c.lend-machine.ensures.value stands)) in
    let few : length (value_at (snapshot_of setup (steps_of calls)) c.args.slot) ≤ 512 = value_short setup (steps_of calls) c.args.slot in
    let same : length c.as_slice.result.now ≡ length c.in-Ok.value = ap length c.as_slice.ensures in
    let put : c.put.result ≡ true = c.put.ensures.fits (omega (arith, is, few, same, enough)) in
    let not : c.put.result ≡ false = c.if-put.false in
    absurd (Prim.grind (arith, put, not))
