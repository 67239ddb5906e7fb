use Rattle.stream_c.proofs.Prelude.{subst, KeptStands}
use Rattle.stream_c.proofs.stream.vm_stream_held.Goals as goal

pub returns-clause-held : goal.returns-clause-held
returns-clause-held c = λ stay calls stands. c.held.ensures.held stay calls (subst (KeptStands stay calls) c.lend.ensures.value stands)

pub returns-clause-bound : goal.returns-clause-bound
returns-clause-bound c = λ stay calls stands. c.held.ensures.bound stay calls (subst (KeptStands stay calls) c.lend.ensures.value stands)
