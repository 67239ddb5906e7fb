use Rattle.base_grammar.proofs.Prelude.{arith}
use Rattle.base_grammar.proofs.Sizes.{length-subgroup, entries_few}
use Rattle.base_grammar.proofs.writing.put_subgroup.Goals as goal

pub overflow_cast-entries : goal.overflow_cast-entries
overflow_cast-entries c = grind (arith, length-subgroup, entries_few)
