use Rattle.isoal_unframed.proofs.Prelude.{arith}
use Rattle.isoal_unframed.proofs.Airs.{laid_event, newest_is, stands_lay}
use Rattle.isoal_unframed.proofs.Events.{event_count}
use Rattle.isoal_unframed.proofs.unframed_out.UnframedOut.lay_event_in.Goals as goal

pub returns-clause-count : goal.returns-clause-count
returns-clause-count c = grind (arith, event_count)

pub returns-clause-stands : goal.returns-clause-stands
returns-clause-stands c = grind (arith, stands_lay)

pub returns-clause-laid : goal.returns-clause-laid
returns-clause-laid c = grind (arith, newest_is, laid_event)
