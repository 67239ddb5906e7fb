use Rattle.std.proofs.Common.{sym}
use Rattle.std.proofs.lemmas.Bool.{false≢true}
use Rattle.bcast_io.proofs.adapters.WriteSinkByteSink.write.Goals as goal

pub returns-else-eq-clause-failed : goal.returns-else-eq-clause-failed
returns-else-eq-clause-failed g c failed = absurd (false≢true (rw failed at c.if-eq.ensures))

pub returns-then-eq-clause-memory : goal.returns-then-eq-clause-memory
returns-then-eq-clause-memory g c wants = absurd (false≢true (sym (rw wants at c.if-eq.ensures)))
