use Rattle.link_c.proofs.Prelude.{◌≡◌, ◌<◌, ◌∙◌, length, Option, subst, sym, ap, arith, LinkStandsIn, encoded}
use Rattle.std.specs.Prelude.{option_copied, take}
use Rattle.assistant_machine.specs.State.Assistants.{StandsFor}
use Rattle.assistant_machine.specs.Views.{view_of}
use Rattle.receive_state.specs.Layout.{StateIs}
use Rattle.receive_state.specs.declared.state.ReceiveState.{ReceiveState}
use Rattle.link_c.proofs.Lengths.{is_encoded, view_within}
use Rattle.link_c.proofs.link.vm_link_view.Goals as goal

pub returns-clause-view : goal.returns-clause-view
returns-clause-view c = λ slots calls stands _.
    let kept : StandsFor slots calls c.lend-machine.result.now.assistant = subst (LinkStandsIn slots calls) c.lend-machine.ensures.value stands in
    let count = c.slot_count.ensures.slots slots calls kept in
    let below : c.args.slot < slots = omega (arith, count, c.if-slot-slot_count.false) in
    let is : option_copied c.view.result ≡ view_of c.args.slot calls = c.view.ensures.calls slots calls kept below in
    let put = c.put.ensures.put c.if-not-put.false in
    let octets : take (length c.as_slice-2.result.now) c.put.new.room ≡ c.in-Ok.octets = cc (put, c.as_slice.ensures, c.as_slice-2.ensures) in
    subst (λ (view : Option ReceiveState). StateIs view (take (length c.as_slice-2.result.now) c.put.new.room)) is
    (subst (StateIs (option_copied c.view.result)) (sym octets) c.in-Ok.ensures)

pub returns-then-not-put-clause-enough : goal.returns-then-not-put-clause-enough
returns-then-not-put-clause-enough c = λ slots calls stands within _.
    let kept : StandsFor slots calls c.lend-machine.result.now.assistant = subst (LinkStandsIn slots calls) c.lend-machine.ensures.value stands in
    let count = c.slot_count.ensures.slots slots calls kept in
    let below : c.args.slot < slots = omega (arith, count, c.if-slot-slot_count.false) in
    let is : option_copied c.view.result ≡ view_of c.args.slot calls = c.view.ensures.calls slots calls kept below in
    let octets : c.as_slice.result.now ≡ encoded (view_of c.args.slot calls) =
    c.as_slice.ensures ∙ is_encoded (option_copied c.view.result) c.in-Ok.octets c.in-Ok.ensures ∙ ap encoded is in
    let long = view_within (length c.args.room.now) c.args.slot calls within in
    let fits = c.put.ensures.fits (omega (arith, ap length octets, long)) in
    absurd cc (fits, c.if-not-put.true)

pub returns-then-slot-slot_count-clause-none : goal.returns-then-slot-slot_count-clause-none
returns-then-slot-slot_count-clause-none c = λ slots calls stands _.
    let kept : StandsFor slots calls c.lend-machine.result.now.assistant = subst (LinkStandsIn slots calls) c.lend-machine.ensures.value stands in
    let count = c.slot_count.ensures.slots slots calls kept in
    omega (arith, count, c.if-slot-slot_count.true)

pub returns-in-Err-clause-slot : goal.returns-in-Err-clause-slot
returns-in-Err-clause-slot c = λ slots calls stands above.
    let kept : StandsFor slots calls c.lend-machine.result.now.assistant = subst (LinkStandsIn slots calls) c.lend-machine.ensures.value stands in
    let count = c.slot_count.ensures.slots slots calls kept in
    absurd (omega (arith, count, above, c.if-slot-slot_count.false))

pub returns-then-not-put-clause-slot : goal.returns-then-not-put-clause-slot
returns-then-not-put-clause-slot c = λ slots calls stands above.
    let kept : StandsFor slots calls c.lend-machine.result.now.assistant = subst (LinkStandsIn slots calls) c.lend-machine.ensures.value stands in
    let count = c.slot_count.ensures.slots slots calls kept in
    absurd (omega (arith, count, above, c.if-slot-slot_count.false))

pub returns-clause-slot : goal.returns-clause-slot
returns-clause-slot c = λ slots calls stands above.
    let kept : StandsFor slots calls c.lend-machine.result.now.assistant = subst (LinkStandsIn slots calls) c.lend-machine.ensures.value stands in
    let count = c.slot_count.ensures.slots slots calls kept in
    absurd (omega (arith, count, above, c.if-slot-slot_count.false))
