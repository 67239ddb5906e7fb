use Rattle.isoal_framed.proofs.Prelude.{◌≡◌, map, vec_len, token_of, run_in, stay_of}
use Rattle.isoal_framed.proofs.Joins.{Walked}
use Rattle.isoal_framed.proofs.close.take_segments.Given as goal

abbrev pub invariant-segments : goal.invariant-segments
invariant-segments g l = record {
  room : vec_len l.undecided.octets ≡ vec_len l.initial.undecided.octets;
  walked : Walked (vec_len l.initial.undecided.octets) l.stream.bis (run_in l.initial.undecided) (run_in l.undecided)
      (map (token_of (stay_of l.stream) l.event) l.fn.segments) (map (token_of (stay_of l.stream) l.event) l.segment-iterator)
      l.initial.handed l.handed (g.T.UnitTaker.calls l.initial.taker) (g.T.UnitTaker.calls l.taker)
      (g.T.UnitTaker.counts l.initial.taker) (g.T.UnitTaker.counts l.taker);
}
