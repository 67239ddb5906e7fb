use Rattle.std.proofs.Common.{◌+◌, ◌∷◌, ◌∙◌, ap, sym, add-one}
use Rattle.std.proofs.lemmas.List.{take_rest}
use Rattle.transcript_text.specs.CountedLines.{lines_of}
use Rattle.transcript_text.proofs.Splitting.{no_end, first_end, nothing_left}
use Rattle.transcript_text.proofs.counts.split_line.Goals as goal

pub returns-in-None-clause-lines : goal.returns-in-None-clause-lines
returns-in-None-clause-lines c =
    let text = c.args.text.now in
    no_end text c.requires c.in-None.ensures ∙ ap (λ rest. text ∷ lines_of rest) (sym (nothing_left text))

pub returns-in-Some-clause-lines : goal.returns-in-Some-clause-lines
returns-in-Some-clause-lines c =
    let text = c.args.text.now in
    let end = c.in-Some.end in
    let split = first_end text end c.in-Some.ensures.0.high c.in-Some.ensures.0.before c.in-Some.ensures.1 in
    rw (take_rest text (end + 1), add-one) split
