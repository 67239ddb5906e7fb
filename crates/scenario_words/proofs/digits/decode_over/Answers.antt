use Rattle.scenario_words.proofs.Prelude.{arith, take, drop, length}
use Rattle.scenario_words.proofs.OneWord.{array_length, whole_prefix}
use Rattle.scenario_words.proofs.digits.decode_over.Goals as goal

pub returns : goal.returns
returns c = grind (arith, take, drop, length, array_length, whole_prefix)
