use Rattle.source_machine.proofs.Prelude.{◌≡◌, ◌+◌, [], length, ◌∙◌, ap, sym, arith, slice_get-get_or}
use Rattle.source_machine.proofs.Lent.{event_laid, lent_count, lent_is, pdu_laid}
use Rattle.source_machine.proofs.sent_stream.SentStream.pdu.Goals as goal

pub bounds-self-inside-index : goal.bounds-self-inside-index
bounds-self-inside-index c =
    let lent = c.self.inside in
    let count : length c.args.self.now ≡ lent.count =
    ap length (sym c.self.view_is) ∙ lent_count lent.laid.now.items lent.place lent.carried.now.aheads lent.carried.now.places lent.count in
    omega (arith, count, c.requires, c.self.invariant.few)

pub unwrap-event-requires : goal.unwrap-event-requires
unwrap-event-requires c =
    let lent = c.self.inside in
    let count : length c.args.self.now ≡ lent.count =
    ap length (sym c.self.view_is) ∙ lent_count lent.laid.now.items lent.place lent.carried.now.aheads lent.carried.now.places lent.count in
    let there = event_laid lent.laid.now.items lent.place lent.carried.now.aheads lent.carried.now.places lent.count c.args.subevent c.self.invariant (omega (arith, count, c.requires)) in
    grind (arith, there, slice_get-get_or lent.laid.now.items (lent.place + c.from-ahead.result) [])

pub bounds-self-inside-index-2 : goal.bounds-self-inside-index-2
bounds-self-inside-index-2 c =
    let lent = c.self.inside in
    let count : length c.args.self.now ≡ lent.count =
    ap length (sym c.self.view_is) ∙ lent_count lent.laid.now.items lent.place lent.carried.now.aheads lent.carried.now.places lent.count in
    omega (arith, count, c.requires, c.self.invariant.few)

pub pdu-requires : goal.pdu-requires
pdu-requires c =
    let lent = c.self.inside in
    let count : length c.args.self.now ≡ lent.count =
    ap length (sym c.self.view_is) ∙ lent_count lent.laid.now.items lent.place lent.carried.now.aheads lent.carried.now.places lent.count in
    let there = pdu_laid lent.laid.now.items lent.place lent.carried.now.aheads lent.carried.now.places lent.count c.args.subevent c.unwrap-event.result.now c.self.invariant (omega (arith, count, c.requires)) in
    grind (arith, there)

pub returns : goal.returns
returns c =
    let lent = c.self.inside in
    let count : length c.args.self.now ≡ lent.count =
    ap length (sym c.self.view_is) ∙ lent_count lent.laid.now.items lent.place lent.carried.now.aheads lent.carried.now.places lent.count in
    rw (← c.self.view_is)
    (lent_is lent.laid.now.items lent.place lent.carried.now.aheads lent.carried.now.places lent.count c.args.subevent c.unwrap-event.result.now c.pdu.result.now
    (omega (arith, count, c.requires)) (grind arith) (grind arith))
