use Rattle.source_machine.proofs.Prelude.{length, ap, sym, ◌∙◌}
use Rattle.source_machine.proofs.Lent.{lent_count}
use Rattle.source_machine.proofs.sent_stream.SentStream.count.Goals as goal

pub returns-clause-count : goal.returns-clause-count
returns-clause-count c =
    let lent = c.self.inside in
    sym (ap length (sym c.self.view_is) ∙ lent_count lent.laid.now.items lent.place lent.carried.now.aheads lent.carried.now.places lent.count)
