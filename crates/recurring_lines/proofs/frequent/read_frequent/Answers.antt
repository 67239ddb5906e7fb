use Rattle.recurring_lines.proofs.Prelude.{sym, ◌∙◌}
use Rattle.recurring_lines.proofs.FrequentLines.{all_in_range, event_read, some_in_range}
use Rattle.recurring_lines.proofs.frequent.read_frequent.Goals as goal

pub returns-in-Some-clause-in_range : goal.returns-in-Some-clause-in_range
returns-in-Some-clause-in_range c = all_in_range _ _ c.of_unit.result c.of_unit.ensures.gives

pub returns-then-is_word-clause-reads : goal.returns-then-is_word-clause-reads
returns-then-is_word-clause-reads c version = event_read version c.args.line.now (sym c.is_word.ensures ∙ c.if-is_word.true)

pub returns-in-Some-behind-clause-in_range : goal.returns-in-Some-behind-clause-in_range
returns-in-Some-behind-clause-in_range c = some_in_range _ c.args.spare.now c.of_air.result (c.of_air.ensures c.args.spare.now)
