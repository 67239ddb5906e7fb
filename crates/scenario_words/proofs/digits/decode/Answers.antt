use Rattle.scenario_words.proofs.Prelude.{arith, ◌+◌, ◌*◌}
use Rattle.scenario_words.proofs.DigitPairs.{all_pairs, is_digit_at, octets_at, one_pair_more}
use Rattle.scenario_words.proofs.digits.decode.Goals as goal

pub joined-requires-clause-first : goal.joined-requires-clause-first
joined-requires-clause-first c =
    let octets = octets_at c.args.word.now c.as_chunks.result.0.now c.pairs.i c.from_le_bytes.result c.as_chunks.ensures.front (omega arith) (λ k. (c.type_inv.word k).fits) c.from_le_bytes.ensures in
    rw octets.0 (is_digit_at c.args.word.now (2 * c.pairs.i) c.requires.digits (omega arith))

pub joined-requires-clause-second : goal.joined-requires-clause-second
joined-requires-clause-second c =
    let octets = octets_at c.args.word.now c.as_chunks.result.0.now c.pairs.i c.from_le_bytes.result c.as_chunks.ensures.front (omega arith) (λ k. (c.type_inv.word k).fits) c.from_le_bytes.ensures in
    rw octets.1 (is_digit_at c.args.word.now (2 * c.pairs.i + 1) c.requires.digits (omega arith))

pub pairs-preserved : goal.pairs-preserved
pairs-preserved c = grind (arith, octets_at, one_pair_more)

pub returns : goal.returns
returns c = all_pairs c.args.word.now c.pairs.octets c.pairs.i c.requires.even (omega arith) (omega arith) c.pairs.invariant
