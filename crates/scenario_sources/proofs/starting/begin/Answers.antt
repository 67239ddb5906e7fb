use Rattle.scenario_sources.proofs.Prelude.{is_described, arith}
use Rattle.scenario_sources.proofs.Starts.{begin_stops, is_not_other}
use Rattle.scenario_sources.proofs.starting.begin.Goals as goal

pub unreachable-requires : goal.unreachable-requires
unreachable-requires c = grind (arith, is_not_other, is_described)

pub returns : goal.returns
returns c version own h a running may is = grind arith

pub returns-in-Err : goal.returns-in-Err
returns-in-Err c version own h a running may is = grind (arith, begin_stops)
