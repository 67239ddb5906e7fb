use Rattle.recurring_lines.proofs.Prelude.{◌∷◌, ◌++◌, [], ap, ◌∙◌}
use Rattle.recurring_lines.proofs.FrequentLines.{none_more}
use Rattle.recurring_lines.proofs.OperationLines.{reads_takes, remove_read}
use Rattle.recurring_lines.proofs.operations.remove_line.Goals as goal

pub returns-in_err-append-clause-memory : goal.returns-in_err-append-clause-memory
returns-in_err-append-clause-memory c = λ failed.
    let none = none_more c.octet-2.new.self.words c.has_more.result c.has_more.ensures c.if-has_more.false in
    reads_takes _ _ c.in-Ok.sink
    (remove_read c.args.line.now c.in-Some.words.now c.behind_first-words.result c.octet.new.self c.octet-2.new.self c.in-Ok.sink c.in-Ok-octet.source_id
    c.in-Some.ensures c.behind_first-words.ensures c.in-Ok.ensures.gives c.in-Ok-octet.ensures.gives none)

pub returns-clause-reads : goal.returns-clause-reads
returns-clause-reads c =
    let none = none_more c.octet-2.new.self.words c.has_more.result c.has_more.ensures c.if-has_more.false in
    let reads = remove_read c.args.line.now c.in-Some.words.now c.behind_first-words.result c.octet.new.self c.octet-2.new.self c.in-Ok.sink c.in-Ok-octet.source_id
    c.in-Some.ensures c.behind_first-words.ensures c.in-Ok.ensures.gives c.in-Ok-octet.ensures.gives none in
    (reads.0, reads.1, c.in_ok-append.ensures.ok ∙ (ap (λ octets. octets ++ 5 ∷ c.in-Ok-octet.source_id ∷ []) c.clear.ensures ∙ reads.2))
