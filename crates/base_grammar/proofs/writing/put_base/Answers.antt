use Rattle.base_grammar.proofs.Prelude.{arith}
use Rattle.base_grammar.proofs.Sizes.{length-encoding}
use Rattle.base_grammar.proofs.writing.put_base.Goals as goal

pub put_fields-requires-clause-few : goal.put_fields-requires-clause-few
put_fields-requires-clause-few c = grind (arith, length-encoding)
