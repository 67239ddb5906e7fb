use Rattle.recurring_lines.proofs.FrequentLines.{none_more}
use Rattle.recurring_lines.proofs.operations.last_groups.Goals as goal

pub returns-clause-last : goal.returns-clause-last
returns-clause-last c = none_more c.groups_into.new.self.words c.has_more.result c.has_more.ensures c.if-has_more.false
