use Rattle.stream_c.proofs.Prelude.{◌≡◌, ◌++◌, List, Call, Stay, opened, length, take, arith, ap, subst, sym, ◌∙◌, Brought, HasRoom, units_at_close, KeptStands, room_kept, units_kept}
use Rattle.stream_c.proofs.Handing.{brought_by}
use Rattle.stream_c.specs.Streams.{StandsBy, event_of}
use Rattle.stream_c.specs.declared.receiver.Receiver.{Receiver}
use Rattle.stream_c.specs.declared.receiver.Receiver.TheVariants.{Framed, Unframed}
use Rattle.stream_c.proofs.stream.vm_stream_close.Goals as goal

pub returns-then-end-clause-stands : goal.returns-then-end-clause-stands
returns-then-end-clause-stands c = λ stay calls stands _. c.close-handed.ensures.stands stay calls (subst (KeptStands stay calls) c.lend-machine.ensures.value stands)

pub returns-then-end-clause-room : goal.returns-then-end-clause-room
returns-then-end-clause-room c = λ stay calls stands.
    let brought : Brought c.lend-machine.result.now.units (units_at_close stay calls) c.end.new.self c.end.result =
    brought_by c.lend-machine.result.now.units c.begin.new.self c.close-handed.new.taker c.end.new.self (units_at_close stay calls)
    c.close-handed.result c.end.result c.end.ensures.brought c.begin.ensures
    (c.close-handed.ensures.units stay calls (subst (KeptStands stay calls) c.lend-machine.ensures.value stands)) c.close-handed.ensures.cause in
    brought.room ∙ sym (ap room_kept c.lend-machine.ensures.value)

pub returns-else-end-clause-stands : goal.returns-else-end-clause-stands
returns-else-end-clause-stands c = λ stay calls stands _. c.close-handed.ensures.stands stay calls (subst (KeptStands stay calls) c.lend-machine.ensures.value stands)

pub returns-else-end-clause-room : goal.returns-else-end-clause-room
returns-else-end-clause-room c = λ stay calls stands.
    let brought : Brought c.lend-machine.result.now.units (units_at_close stay calls) c.end.new.self c.end.result =
    brought_by c.lend-machine.result.now.units c.begin.new.self c.close-handed.new.taker c.end.new.self (units_at_close stay calls)
    c.close-handed.result c.end.result c.end.ensures.brought c.begin.ensures
    (c.close-handed.ensures.units stay calls (subst (KeptStands stay calls) c.lend-machine.ensures.value stands)) c.close-handed.ensures.cause in
    brought.room ∙ sym (ap room_kept c.lend-machine.ensures.value)

pub returns-then-end-clause-units : goal.returns-then-end-clause-units
returns-then-end-clause-units c = λ stay calls stands _.
    let brought : Brought c.lend-machine.result.now.units (units_at_close stay calls) c.end.new.self c.end.result =
    brought_by c.lend-machine.result.now.units c.begin.new.self c.close-handed.new.taker c.end.new.self (units_at_close stay calls)
    c.close-handed.result c.end.result c.end.ensures.brought c.begin.ensures
    (c.close-handed.ensures.units stay calls (subst (KeptStands stay calls) c.lend-machine.ensures.value stands)) c.close-handed.ensures.cause in
    brought.whole c.if-end.true ∙ ap (λ before. before ++ units_at_close stay calls) (sym (ap units_kept c.lend-machine.ensures.value))

pub returns-else-end-clause-part : goal.returns-else-end-clause-part
returns-else-end-clause-part c = λ stay calls stands _.
    let brought : Brought c.lend-machine.result.now.units (units_at_close stay calls) c.end.new.self c.end.result =
    brought_by c.lend-machine.result.now.units c.begin.new.self c.close-handed.new.taker c.end.new.self (units_at_close stay calls)
    c.close-handed.result c.end.result c.end.ensures.brought c.begin.ensures
    (c.close-handed.ensures.units stay calls (subst (KeptStands stay calls) c.lend-machine.ensures.value stands)) c.close-handed.ensures.cause in
    let part = brought.part c.if-end.false in
    (part.0, part.1, part.2 ∙ ap (λ before. before ++ take part.0 (units_at_close stay calls)) (sym (ap units_kept c.lend-machine.ensures.value)))

pub returns-else-end-clause-served : goal.returns-else-end-clause-served
returns-else-end-clause-served c = λ stay calls stands has _.
    let brought : Brought c.lend-machine.result.now.units (units_at_close stay calls) c.end.new.self c.end.result =
    brought_by c.lend-machine.result.now.units c.begin.new.self c.close-handed.new.taker c.end.new.self (units_at_close stay calls)
    c.close-handed.result c.end.result c.end.ensures.brought c.begin.ensures
    (c.close-handed.ensures.units stay calls (subst (KeptStands stay calls) c.lend-machine.ensures.value stands)) c.close-handed.ensures.cause in
    let all = brought.served (subst (λ kept. HasRoom (room_kept kept) (length (units_kept kept)) (units_at_close stay calls)) c.lend-machine.ensures.value has) in
    let none = c.if-end.false in
    absurd (Prim.grind (arith, all, none))

opened_at : (stay : Stay) (calls : List Call) (receiver : Receiver) → StandsBy stay calls receiver → event_of receiver ≡ opened stay calls
opened_at stay calls (Unframed window) is = is.stands.event_is ∙ ap (λ s. opened s calls) is.stay_is
opened_at stay calls (Framed window) is = is.stands.hearing.event_is ∙ ap (λ s. opened s calls) is.stay_is

pub returns-then-open_event-clause-ends : goal.returns-then-open_event-clause-ends
returns-then-open_event-clause-ends c = λ stay calls stands less _.
    let machine = c.lend-machine.result.now in
    let event = opened_at stay calls machine.receiver (subst (KeptStands stay calls) c.lend-machine.ensures.value stands).by_framing in
    absurd (Prim.omega (arith, event, less, c.open_event.ensures.event, c.if-open_event.true))
