use Rattle.std.proofs.Common.{arith}
use Rattle.radio_schedule.proofs.payload.copies_ahead.Goals as goal

pub returns-then-copies-info-clause-ahead : goal.returns-then-copies-info-clause-ahead
returns-then-copies-info-clause-ahead c = grind arith
