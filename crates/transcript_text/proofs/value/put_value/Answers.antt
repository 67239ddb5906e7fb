use Rattle.std.proofs.Common.{arith, length-append}
use Rattle.hex.proofs.HexLemmas.{length-encode_with}
use Rattle.transcript_text.proofs.UnitLines.{value_put}
use Rattle.transcript_text.proofs.value.put_value.Goals as goal

pub push-requires-3 : goal.push-requires-3
push-requires-3 c = grind (arith, length-append, length-encode_with)

pub returns : goal.returns
returns c = grind (arith, value_put)
