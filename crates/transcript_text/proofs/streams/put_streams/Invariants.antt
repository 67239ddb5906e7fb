use Rattle.transcript_text.proofs.Indices.{IndicesLeft}
use Rattle.transcript_text.proofs.streams.put_streams.Given as goal

abbrev pub invariant-indices : goal.invariant-indices
invariant-indices l = IndicesLeft l.which l.initial.line l.line l.index
