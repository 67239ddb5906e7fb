use Rattle.base_grammar.proofs.Prelude.{arith, ◌≤◌, length, entry}
use Rattle.base_grammar.proofs.Sizes.{item_small}
use Rattle.base_grammar.proofs.writing.put_entries.Goals as goal

pub put_entry-requires : goal.put_entry-requires
put_entry-requires c =
    let small : length (entry c.entry-item.result) ≤ 252 = item_small entry c.args.entries.now c.loop-entry.entry-index 252 c.entry-item.result c.loop-entry-test.true c.entry-item.is c.requires in
    omega arith
