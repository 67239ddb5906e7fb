use Rattle.base_grammar.proofs.Prelude.{arith}
use Rattle.base_grammar.proofs.Indices.{stands-both}
use Rattle.base_grammar.proofs.subgroup.stands_before.Goals as goal

pub returns-then-has_index : goal.returns-then-has_index
returns-then-has_index c =
    grind (arith, c.if-has_index.true, c.has_index.ensures, stands-both c.args.bis c.args.subgroups.now c.args.entries.now)

pub returns-else-has_index : goal.returns-else-has_index
returns-else-has_index c =
    grind (
      arith,
      c.has_entry.ensures,
      c.if-has_index.false,
      c.has_index.ensures,
      stands-both c.args.bis c.args.subgroups.now c.args.entries.now,
    )
