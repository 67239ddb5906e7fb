use Rattle.sink_c.proofs.Prelude.{◌++◌, length, take, arith, ap, append_assoc, subst, sym, ◌∙◌, Brought, HasRoom, group_calls, handed_at, KeptStands, room_kept, units_kept}
use Rattle.sink_c.proofs.Handing.{brought_by}
use Rattle.sink_c.proofs.units.vm_sink_tick.Goals as goal

pub returns-then-end-clause-stands : goal.returns-then-end-clause-stands
returns-then-end-clause-stands c = λ setup calls stands _. c.tick-handed.ensures.stands setup calls (subst (KeptStands setup calls) c.lend-machine.ensures.value stands)

pub returns-then-end-clause-room : goal.returns-then-end-clause-room
returns-then-end-clause-room c = λ setup calls stands.
    let brought : Brought c.lend-machine.result.now.units (handed_at (group_calls setup calls) c.args.event) c.end.new.self c.end.result =
    brought_by c.lend-machine.result.now.units c.begin.new.self c.tick-handed.new.taker c.end.new.self (handed_at (group_calls setup calls) c.args.event)
    c.tick-handed.result c.end.result c.end.ensures.brought c.begin.ensures
    (c.tick-handed.ensures.hands setup calls (subst (KeptStands setup calls) c.lend-machine.ensures.value stands)) c.tick-handed.ensures.cause in
    brought.room ∙ sym (ap room_kept c.lend-machine.ensures.value)

pub returns-else-end-clause-stands : goal.returns-else-end-clause-stands
returns-else-end-clause-stands c = λ setup calls stands _. c.tick-handed.ensures.stands setup calls (subst (KeptStands setup calls) c.lend-machine.ensures.value stands)

pub returns-else-end-clause-room : goal.returns-else-end-clause-room
returns-else-end-clause-room c = λ setup calls stands.
    let brought : Brought c.lend-machine.result.now.units (handed_at (group_calls setup calls) c.args.event) c.end.new.self c.end.result =
    brought_by c.lend-machine.result.now.units c.begin.new.self c.tick-handed.new.taker c.end.new.self (handed_at (group_calls setup calls) c.args.event)
    c.tick-handed.result c.end.result c.end.ensures.brought c.begin.ensures
    (c.tick-handed.ensures.hands setup calls (subst (KeptStands setup calls) c.lend-machine.ensures.value stands)) c.tick-handed.ensures.cause in
    brought.room ∙ sym (ap room_kept c.lend-machine.ensures.value)

pub returns-then-end-clause-units : goal.returns-then-end-clause-units
returns-then-end-clause-units c = λ setup calls stands _.
    let brought : Brought c.lend-machine.result.now.units (handed_at (group_calls setup calls) c.args.event) c.end.new.self c.end.result =
    brought_by c.lend-machine.result.now.units c.begin.new.self c.tick-handed.new.taker c.end.new.self (handed_at (group_calls setup calls) c.args.event)
    c.tick-handed.result c.end.result c.end.ensures.brought c.begin.ensures
    (c.tick-handed.ensures.hands setup calls (subst (KeptStands setup calls) c.lend-machine.ensures.value stands)) c.tick-handed.ensures.cause in
    brought.whole c.if-end.true ∙ ap (λ before. before ++ handed_at (group_calls setup calls) c.args.event) (sym (ap units_kept c.lend-machine.ensures.value))

pub returns-then-end-clause-carried : goal.returns-then-end-clause-carried
returns-then-end-clause-carried c = λ setup calls taken stands _ all.
    let brought : Brought c.lend-machine.result.now.units (handed_at (group_calls setup calls) c.args.event) c.end.new.self c.end.result =
    brought_by c.lend-machine.result.now.units c.begin.new.self c.tick-handed.new.taker c.end.new.self (handed_at (group_calls setup calls) c.args.event)
    c.tick-handed.result c.end.result c.end.ensures.brought c.begin.ensures
    (c.tick-handed.ensures.hands setup calls (subst (KeptStands setup calls) c.lend-machine.ensures.value stands)) c.tick-handed.ensures.cause in
    let waits = brought.whole c.if-end.true ∙ ap (λ before. before ++ handed_at (group_calls setup calls) c.args.event) (sym (ap units_kept c.lend-machine.ensures.value)) in
    ap (λ units. taken ++ units) waits ∙ sym (append_assoc taken (units_kept c.args.sink.now.kept) (handed_at (group_calls setup calls) c.args.event)) ∙ ap (λ units. units ++ handed_at (group_calls setup calls) c.args.event) all

pub returns-else-end-clause-part : goal.returns-else-end-clause-part
returns-else-end-clause-part c = λ setup calls stands _.
    let brought : Brought c.lend-machine.result.now.units (handed_at (group_calls setup calls) c.args.event) c.end.new.self c.end.result =
    brought_by c.lend-machine.result.now.units c.begin.new.self c.tick-handed.new.taker c.end.new.self (handed_at (group_calls setup calls) c.args.event)
    c.tick-handed.result c.end.result c.end.ensures.brought c.begin.ensures
    (c.tick-handed.ensures.hands setup calls (subst (KeptStands setup calls) c.lend-machine.ensures.value stands)) c.tick-handed.ensures.cause in
    let part = brought.part c.if-end.false in
    (part.0, part.1, part.2 ∙ ap (λ before. before ++ take part.0 (handed_at (group_calls setup calls) c.args.event)) (sym (ap units_kept c.lend-machine.ensures.value)))

pub returns-else-end-clause-served : goal.returns-else-end-clause-served
returns-else-end-clause-served c = λ setup calls stands has _.
    let brought : Brought c.lend-machine.result.now.units (handed_at (group_calls setup calls) c.args.event) c.end.new.self c.end.result =
    brought_by c.lend-machine.result.now.units c.begin.new.self c.tick-handed.new.taker c.end.new.self (handed_at (group_calls setup calls) c.args.event)
    c.tick-handed.result c.end.result c.end.ensures.brought c.begin.ensures
    (c.tick-handed.ensures.hands setup calls (subst (KeptStands setup calls) c.lend-machine.ensures.value stands)) c.tick-handed.ensures.cause in
    let all = brought.served (subst (λ kept. HasRoom (room_kept kept) (length (units_kept kept)) (handed_at (group_calls setup calls) c.args.event)) c.lend-machine.ensures.value has) in
    let none = c.if-end.false in
    absurd (Prim.grind (arith, all, none))

pub returns-then-event-clause-in_range : goal.returns-then-event-clause-in_range
returns-then-event-clause-in_range c = λ less _. absurd (Prim.omega (arith, less, c.if-event.true))
