use Rattle.group_sink.proofs.Prelude.{get_or, arith, payload_number}
use Rattle.group_sink.proofs.Offsets.{no_number, number_at, some_number}
use Rattle.group_sink.proofs.numbers.Numbers.behind.Goals as goal

pub returns-then-number : goal.returns-then-number
returns-then-number c event is = grind (arith, payload_number, get_or, number_at, some_number)

pub returns-else-number : goal.returns-else-number
returns-else-number c event is = grind (arith, payload_number, get_or, number_at, no_number)
