use Rattle.recurring_lines.proofs.Prelude.{ap, refl, ◌∙◌}
use Rattle.recurring_lines.proofs.OperationLines.{modify_octets, modify_read, modify_takes, reads_takes}
use Rattle.recurring_lines.proofs.operations.modify_line.Goals as goal

pub returns-in_err-count-clause-memory : goal.returns-in_err-count-clause-memory
returns-in_err-count-clause-memory c failed =
    modify_takes c.args.line.now c.in-Some.words.now c.behind_first-words.result c.in-Some.ensures c.behind_first-words.ensures
    (c.in-Some-modify_head.ensures.takes (c.in_err-count.ensures.memory refl))

pub returns-in_err-lay_modify-clause-memory : goal.returns-in_err-lay_modify-clause-memory
returns-in_err-lay_modify-clause-memory c failed =
    reads_takes _ _ c.in-Some-modify_head.head.sink
    (modify_read c.args.line.now c.in-Some.words.now c.behind_first-words.result c.modify_head.new.words c.last_groups.new.words c.in-Some-modify_head.head c.in-Some-2.count c.last_groups.new.groups
    c.in-Some.ensures c.behind_first-words.ensures c.in-Some-modify_head.ensures.gives (rw c.in-Some-2.is at c.in_ok-count.ensures.gives) (rw c.in-Some-2.is at c.in_ok-count.ensures.last))

pub returns-clause-reads : goal.returns-clause-reads
returns-clause-reads c =
    let head = c.in-Some-modify_head.head in
    let reads = modify_read c.args.line.now c.in-Some.words.now c.behind_first-words.result c.modify_head.new.words c.last_groups.new.words head c.in-Some-2.count c.last_groups.new.groups
    c.in-Some.ensures c.behind_first-words.ensures c.in-Some-modify_head.ensures.gives (rw c.in-Some-2.is at c.in_ok-count.ensures.gives) (rw c.in-Some-2.is at c.in_ok-count.ensures.last) in
    (reads.0, reads.1, c.in_ok-lay_modify.ensures ∙ (ap (modify_octets head c.in-Some-2.count) c.as_slice.ensures ∙ reads.2))
