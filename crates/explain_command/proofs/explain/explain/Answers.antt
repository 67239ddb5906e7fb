use Rattle.explain_command.proofs.Prelude.{lines_at, told_at}
use Rattle.explain_command.proofs.explain.explain.Goals as goal

pub returns-clause-told : goal.returns-clause-told
returns-clause-told g c = record {
  ran = c.run_heard-ran.result;
  taken = told_at c.run_heard-ran.new.sink.place (g.W.ByteSink.contents c.run_heard-ran.new.sink.inner);
  writes = g.W.ByteSink.faults c.run_heard-ran.new.sink.inner;
  run = c.run_heard-ran.ensures.heard;
  lines = lines_at c.run_heard-ran.new.sink.place (g.W.ByteSink.contents c.run_heard-ran.new.sink.inner);
  told = c.run_heard-ran.ensures.told;
  lines_kept = c.close.ensures.lines;
  kept = c.close.ensures.kept;
  ends = c.close.ensures.ends;
}
