use Rattle.recurring_lines.proofs.Prelude.{◌+◌, ◌-◌, length, get_or, refl, arith}
use Rattle.recurring_lines.proofs.SinkWords.{in_range, of_whole}
use Rattle.recurring_lines.proofs.sink_lines.read_sink_line.Goals as goal

pub returns-clause-reads : goal.returns-clause-reads
returns-clause-reads c =
    let line = c.args.line.now in
    of_whole line (length line - 2) (get_or line (length line - 2 + 1) 0) c.of_name.result (omega arith) c.if-line-end-ne32.false refl
    c.if-digit-lt48.false c.of_name.ensures

pub returns-clause-in_range : goal.returns-clause-in_range
returns-clause-in_range c = in_range _ c.of_name.result c.of_name.ensures
