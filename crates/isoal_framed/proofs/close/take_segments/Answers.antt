use Rattle.isoal_framed.proofs.Prelude.{◌∙◌, ap, map, token_of, stay_of}
use Rattle.isoal_framed.proofs.Joins.{walked_token}
use Rattle.isoal_framed.proofs.close.take_segments.Goals as goal

pub segments-preserved : goal.segments-preserved
segments-preserved g c = record { room = c.take-handed.ensures.room ∙ c.segments.invariant.room; walked = walked_token _ _ _ _ _ _ _ _ _ _ _ _ _ _ _ _ _ _ c.segments.invariant.walked (ap (map (token_of (stay_of c.args.stream.now) c.args.event)) c.in-Some.ensures.steps) (rw c.segments.invariant.room at c.take-handed.ensures.run) (rw c.segments.invariant.room at c.take-handed.ensures.hands) c.take-handed.ensures.cause }
