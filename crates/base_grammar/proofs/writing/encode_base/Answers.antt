use Rattle.base_grammar.proofs.Prelude.{arith}
use Rattle.base_grammar.proofs.Sizes.{length-encoding}
use Rattle.base_grammar.proofs.writing.encode_base.Goals as goal

pub encode_fields-requires-clause-few : goal.encode_fields-requires-clause-few
encode_fields-requires-clause-few c = grind (arith, length-encoding)
