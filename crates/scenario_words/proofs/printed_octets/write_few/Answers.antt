use Rattle.scenario_words.proofs.Prelude.{arith, lower_digits, encode_done}
use Rattle.scenario_words.proofs.Putting.{pair_put}
use Rattle.scenario_words.proofs.printed_octets.write_few.Goals as goal

pub octets-preserved : goal.octets-preserved
octets-preserved c = grind (arith, pair_put)

pub returns : goal.returns
returns c = encode_done lower_digits c.args.octets.now c.octets.digits c.octets.i (omega arith) (omega arith) c.octets.invariant
