use Rattle.scenario_words.proofs.Prelude.{arith, sym}
use Rattle.scenario_words.proofs.SameWords.{other_length, same_octet, other_octet, same_word}
use Rattle.scenario_words.proofs.word.is_word.Goals as goal

pub octets-preserved : goal.octets-preserved
octets-preserved c = same_octet c.args.word.now c.args.name.now c.octets.i (omega arith) (omega arith) c.if-word-i.false c.octets.invariant

pub returns-then-word-name : goal.returns-then-word-name
returns-then-word-name c = sym (other_length c.args.word.now c.args.name.now c.if-word-name.true)

pub returns-then-word-i : goal.returns-then-word-i
returns-then-word-i c = sym (other_octet c.args.word.now c.args.name.now c.octets.i (omega arith) (omega arith) c.if-word-i.true c.octets.invariant)

pub returns : goal.returns
returns c = sym (same_word c.args.word.now c.args.name.now c.octets.i (omega arith) (omega arith) c.octets.invariant)
