use Rattle.std.proofs.Common.{arith}
use Rattle.transcript_text.proofs.Indices.{index_put, indices_put}
use Rattle.transcript_text.proofs.streams.put_streams.Goals as goal

pub indices-preserved : goal.indices-preserved
indices-preserved c =
    index_put c.args.which c.args.line.now c.indices.line c.put_index.new.line c.indices.index (omega arith) c.indices.invariant c.in_ok-put_index.ensures

pub returns : goal.returns
returns c =
    indices_put c.args.which c.args.line.now c.indices.line c.indices.index (omega arith) (omega arith)
    (λ i above inside. c.last_of-end.ensures.none_above i (omega arith) inside) c.indices.invariant
