use Rattle.scenario_lines.proofs.Prelude.{◌≡◌, ◌-◌, ap, arith}
use Rattle.scenario_lines.proofs.Putting.{piece_put, pieces_put, stream_first, streams_left, streams_words}
use Rattle.scenario_lines.proofs.streams.put_streams.Goals as goal

pub indices-preserved : goal.indices-preserved
indices-preserved c =
    piece_put (streams_left c.args.which) _ _ c.indices.line _ _ c.indices.index (stream_first c.args.which c.indices.index (omega arith)) c.indices.invariant c.in_ok-put_index.ensures

pub returns : goal.returns
returns c =
    let none : 32 - c.indices.index ≡ 0 = omega arith in
    pieces_put (streams_left c.args.which) _ _ _ c.indices.index (ap (streams_words c.args.which c.indices.index) none) c.indices.invariant
