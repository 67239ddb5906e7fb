use Rattle.std.proofs.Common.{arith}
use Rattle.isoal_base.proofs.Heards.{heard_first, first_heard, heard_none, none_heard}
use Rattle.isoal_base.proofs.laws.heard_is_first.Goals as goal

pub returns-clause-first : goal.returns-clause-first
returns-clause-first g c read stay number part calls = (heard_first read stay number part calls, first_heard read stay number part calls)

pub returns-clause-none : goal.returns-clause-none
returns-clause-none g c read stay number calls = grind (arith, heard_none, none_heard)
