use Rattle.recurring_lines.proofs.Prelude.{ap, refl, ◌∙◌}
use Rattle.recurring_lines.proofs.OperationLines.{add_octets, add_read, add_takes, reads_takes}
use Rattle.recurring_lines.proofs.operations.add_line.Goals as goal

pub returns-in_err-count-clause-memory : goal.returns-in_err-count-clause-memory
returns-in_err-count-clause-memory c failed =
    add_takes c.args.line.now c.in-Some.words.now c.behind_first-words.result c.in-Some.ensures c.behind_first-words.ensures
    (c.in-Some-add_head.ensures.takes (c.in_err-count.ensures.memory refl))

pub returns-in_err-lay_add-clause-memory : goal.returns-in_err-lay_add-clause-memory
returns-in_err-lay_add-clause-memory c failed =
    reads_takes _ _ c.in-Some-add_head.head.sink
    (add_read c.args.line.now c.in-Some.words.now c.behind_first-words.result c.add_head.new.words c.last_groups.new.words c.in-Some-add_head.head c.in-Some-2.count c.last_groups.new.groups
    c.in-Some.ensures c.behind_first-words.ensures c.in-Some-add_head.ensures.gives (rw c.in-Some-2.is at c.in_ok-count.ensures.gives) (rw c.in-Some-2.is at c.in_ok-count.ensures.last))

pub returns-clause-reads : goal.returns-clause-reads
returns-clause-reads c =
    let head = c.in-Some-add_head.head in
    let reads = add_read c.args.line.now c.in-Some.words.now c.behind_first-words.result c.add_head.new.words c.last_groups.new.words head c.in-Some-2.count c.last_groups.new.groups
    c.in-Some.ensures c.behind_first-words.ensures c.in-Some-add_head.ensures.gives (rw c.in-Some-2.is at c.in_ok-count.ensures.gives) (rw c.in-Some-2.is at c.in_ok-count.ensures.last) in
    (reads.0, reads.1, c.in_ok-lay_add.ensures ∙ (ap (add_octets head c.in-Some-2.count) c.as_slice.ensures ∙ reads.2))
