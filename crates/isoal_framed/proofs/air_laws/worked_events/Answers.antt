use Rattle.isoal_framed.proofs.Prelude.{lit<, lit≤, arith}
use Rattle.isoal_framed.proofs.Packings.{comes_known, comes_nothing}
use Rattle.isoal_framed.proofs.air_laws.worked_events.Goals as goal

pub returns-clause-over_two_pdus : goal.returns-clause-over_two_pdus
returns-clause-over_two_pdus c = grind (arith, comes_known, lit≤, lit<, comes_nothing)

pub returns-clause-over_two_events : goal.returns-clause-over_two_events
returns-clause-over_two_events c = grind (arith, comes_known, lit≤, lit<)

pub returns-clause-left_out : goal.returns-clause-left_out
returns-clause-left_out c = grind (arith, comes_known, lit≤, lit<, comes_nothing)
