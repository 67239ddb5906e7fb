use Rattle.scenario_words.proofs.Prelude.{length, ◌++◌, encode_lower, PutUpTo}
use Rattle.scenario_words.proofs.printed_octets.put_digits.Given as goal

abbrev pub invariant-chunks : goal.invariant-chunks
invariant-chunks l = PutUpTo l.fn.text l.text (l.fn.waiting ++ encode_lower l.octets) (l.waiting ++ encode_lower l.rest)

abbrev pub decreases-chunks : goal.decreases-chunks
decreases-chunks l = length l.rest
