use Rattle.scenario_sources.proofs.Prelude.{source_calls, arith}
use Rattle.scenario_sources.proofs.Trains.{announces, announces_no_more}
use Rattle.scenario_sources.proofs.announcing.announce.Goals as goal

pub returns-in-Ok-clause-announces : goal.returns-in-Ok-clause-announces
returns-in-Ok-clause-announces c own is = grind (arith, announces, source_calls)

pub returns-in-Err-CounterEnds-clause-announces : goal.returns-in-Err-CounterEnds-clause-announces
returns-in-Err-CounterEnds-clause-announces c own is = grind (arith, announces_no_more, source_calls)
