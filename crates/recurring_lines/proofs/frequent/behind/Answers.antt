use Rattle.recurring_lines.proofs.Prelude.{sym, ◌∙◌}
use Rattle.recurring_lines.proofs.FrequentLines.{rest_of}
use Rattle.recurring_lines.proofs.frequent.behind.Goals as goal

pub returns : goal.returns
returns c = rest_of c.args.line.now c.args.name.now (sym c.is_word.ensures ∙ c.if-not-is_word.false)
