use Rattle.stream_c.proofs.Prelude.{subst, KeptStands}
use Rattle.stream_c.proofs.stream.vm_stream_hear.Goals as goal

pub returns-clause-stands : goal.returns-clause-stands
returns-clause-stands c = λ stay calls stands. c.hear.ensures.stands stay calls (subst (KeptStands stay calls) c.lend.ensures.value stands)
