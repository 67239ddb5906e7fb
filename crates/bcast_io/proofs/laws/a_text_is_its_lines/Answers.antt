use Rattle.bcast_io.proofs.CutTexts.{lines_are, no_others}
use Rattle.bcast_io.proofs.laws.a_text_is_its_lines.Goals as goal

pub returns-clause-are : goal.returns-clause-are
returns-clause-are c = lines_are

pub returns-clause-only : goal.returns-clause-only
returns-clause-only c = no_others
