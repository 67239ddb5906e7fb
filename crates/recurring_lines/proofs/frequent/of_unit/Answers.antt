use Rattle.recurring_lines.proofs.Prelude.{refl}
use Rattle.recurring_lines.proofs.FrequentLines.{unit_read, unit_takes}
use Rattle.recurring_lines.proofs.frequent.of_unit.Goals as goal

pub returns-in_err-frequent-clause-memory : goal.returns-in_err-frequent-clause-memory
returns-in_err-frequent-clause-memory c failed version =
    unit_takes version c.args.words.now c.behind_first-words.result c.behind_first-words.ensures (c.in_err-frequent.ensures.memory refl)

pub returns-clause-gives : goal.returns-clause-gives
returns-clause-gives c =
    unit_read c.args.words.now c.behind_first-words.result c.unit.new.words _ c.has_more.result c.behind_first-words.ensures
    (rw c.in-Some.is at c.in_ok-frequent.ensures.gives) c.has_more.ensures c.if-has_more.false
