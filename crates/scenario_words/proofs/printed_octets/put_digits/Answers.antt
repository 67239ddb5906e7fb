use Rattle.scenario_words.proofs.Prelude.{◌++◌, eqb-true, encode_lower, arith}
use Rattle.scenario_words.proofs.Putting.{put_more, regrouped, encode_split, digits_put}
use Rattle.scenario_words.proofs.printed_octets.put_digits.Goals as goal

pub chunks-preserved : goal.chunks-preserved
chunks-preserved c =
    put_more c.args.text.now c.chunks.text c.put_chunk.new.text (c.args.waiting.now ++ encode_lower c.args.octets.now) (c.chunks.waiting ++ encode_lower c.chunks.rest.now)
    (c.chunks.waiting ++ encode_lower c.split_at.result.0.now) c.put_chunk.new.self (encode_lower c.split_at.result.1.now) c.chunks.invariant
    (grind (arith, regrouped, encode_lower, encode_split)) c.in_ok-put_chunk.ensures.ok

pub returns-clause-ok : goal.returns-clause-ok
returns-clause-ok c = grind (arith, digits_put, encode_lower, eqb-true)
