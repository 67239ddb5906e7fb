use Rattle.replay_steps.proofs.Prelude.{◌∙◌}
use Rattle.replay_steps.proofs.operations.read_of_source.Goals as goal

pub returns-clause-reads : goal.returns-clause-reads
returns-clause-reads c =
    let read = rw c.in-Some.is at c.in_ok-sink.ensures.reads in
    (read.0, c.is_of_source.ensures read.0 (c.as_slice.ensures ∙ read.2) c.if-not-is_of_source.false, read.1, read.2)
