use Rattle.std.proofs.Common.{arith}
use Rattle.std.proofs.lemmas.Result.{on_ok_weaker}
use Rattle.transcript_text.proofs.counts.Counts.add_line.Goals as goal

pub returns : goal.returns
returns c = on_ok_weaker c.put_if.result (λ e. grind arith) c.put_if.ensures
