use Rattle.std.proofs.Common.{arith, length-append, append_assoc, append-nil}
use Rattle.hex.proofs.HexLemmas.{length-encode_with}
use Rattle.transcript_text.proofs.UnitLines.{some_digits}
use Rattle.transcript_text.proofs.line.put_valid.Goals as goal

pub push-requires-2 : goal.push-requires-2
push-requires-2 c = grind (arith, length-append, length-encode_with)

pub returns-clause-ok : goal.returns-clause-ok
returns-clause-ok c = grind (arith, append_assoc, append-nil, some_digits)
