use Rattle.scenario_lines.proofs.Putting.{Left, streams_left}
use Rattle.scenario_lines.proofs.streams.put_streams.Given as goal

abbrev pub invariant-indices : goal.invariant-indices
invariant-indices l = Left (streams_left l.which) (streams_left l.which 1) l.initial.line l.line l.index
