use Rattle.base_grammar.proofs.Prelude.{entry}
use Rattle.base_grammar.proofs.Sizes.{no_room, none_if}
use Rattle.base_grammar.proofs.room.behind_entries.Goals as goal

pub returns-in_err-left : goal.returns-in_err-left
returns-in_err-left c =
    none_if c.from_residual.result _ _ c.from_residual.ensures
    (no_room entry c.args.entries.now c.loop-entry.entry-index c.args.room c.loop-entry.left c.entry-item.result c.loop-entry-test.true c.entry-item.is c.loop-entry.invariant c.in_err-left.ensures)
