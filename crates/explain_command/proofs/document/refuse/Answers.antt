use Rattle.explain_command.proofs.Prelude.{told_at, keeps_then}
use Rattle.explain_command.proofs.document.refuse.Goals as goal

pub returns : goal.returns
returns g c = record {
  ran = c.write_refusal-ran.result;
  taken = told_at c.write_refusal-ran.new.sink.place (g.W.ByteSink.contents c.write_refusal-ran.new.sink.inner);
  then_writes = g.W.ByteSink.faults c.write_refusal-ran.new.sink.inner;
  puts = c.write_refusal-ran.ensures.puts;
  write_fault = c.write_refusal-ran.ensures.write_fault;
  no_write_fault = c.write_refusal-ran.ensures.no_write_fault;
  lines_kept = keeps_then _ _ _ c.write_refusal-ran.ensures.lines c.tell_refusal.ensures.lines;
  taken_kept = c.tell_refusal.ensures.kept;
  ends = c.tell_refusal.ensures.ends;
}
