use Rattle.recurring_lines.proofs.Prelude.{sym, ◌∙◌, arith}
use Rattle.recurring_lines.proofs.SinkWords.{announces, drains, loses, serves, tells}
use Rattle.recurring_lines.proofs.sink_lines.of_name.Goals as goal

pub returns-then-is_word : goal.returns-then-is_word
returns-then-is_word c version = serves version c.args.sink c.args.name.now (sym c.is_word.ensures ∙ c.if-is_word.true) (omega arith)

pub returns-then-is_word-2 : goal.returns-then-is_word-2
returns-then-is_word-2 c version = tells version c.args.sink c.args.name.now (sym c.is_word-2.ensures ∙ c.if-is_word-2.true) (omega arith)

pub returns-then-is_word-3 : goal.returns-then-is_word-3
returns-then-is_word-3 c version = drains version c.args.sink c.args.name.now (sym c.is_word-3.ensures ∙ c.if-is_word-3.true) (omega arith)

pub returns-then-is_word-4 : goal.returns-then-is_word-4
returns-then-is_word-4 c version = loses version c.args.sink c.args.name.now (sym c.is_word-4.ensures ∙ c.if-is_word-4.true) (omega arith)

pub returns-then-is_word-5 : goal.returns-then-is_word-5
returns-then-is_word-5 c version = announces version c.args.sink c.args.name.now (sym c.is_word-5.ensures ∙ c.if-is_word-5.true) (omega arith)
