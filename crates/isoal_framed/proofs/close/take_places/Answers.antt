use Rattle.isoal_framed.proofs.Prelude.{◌≡◌, ◌<◌, ◌+◌, ◌-◌, ◌∙◌, length, take, drop, get_or, None, Ok, vec_len, arith, flat_map, length-map, read_as, segmented, tokens_of, run_in, hands, run_after, entry_in, kept_of, stay_of}
use Rattle.isoal_framed.proofs.Rings.{cleared_more, first_left, left_behind, left_more}
use Rattle.isoal_framed.proofs.Joins.{walked_more}
use Rattle.isoal_framed.proofs.close.take_places.Goals as goal

pub places-preserved : goal.places-preserved
places-preserved g c =
    let size : length (kept_of c.args.store.now.places) ≡ length c.args.store.now.places.ring.items =
    length-map c.args.store.now.places.ring.items (entry_in c.args.store.now.places.max_pdu) in
    let now : length (kept_of c.places.store.places) ≡ length c.places.store.places.ring.items =
    length-map c.places.store.places.ring.items (entry_in c.places.store.places.max_pdu) in
    let below : c.places.index < length (kept_of c.args.store.now.places) = omega (arith, c.places-test.true, c.requires.count) in
    let entry : read_as segmented c.args.stream.now.group.info.max_pdu c.at.result.now ≡ get_or (kept_of c.args.store.now.places) c.places.index None = grind (arith, read_as, segmented, first_left, kept_of) in
    record {
      places = c.clear.ensures.places ∙ c.places.invariant.places;
      max_pdu = c.clear.ensures.max_pdu ∙ c.places.invariant.max_pdu;
      room = c.take_pdu-handed.ensures.room ∙ c.places.invariant.room;
      cleared = grind (arith, cleared_more, kept_of);
      left = grind (arith, left_behind, kept_of);
      walked = walked_more (vec_len c.args.store.now.undecided.octets) c.args.stream.now.bis (run_in c.args.store.now.undecided) (run_in c.places.store.undecided) (run_in c.take_pdu-handed.new.undecided)
          (flat_map (tokens_of (stay_of c.args.stream.now) c.args.event) (take c.args.count (kept_of c.args.store.now.places)))
          (flat_map (tokens_of (stay_of c.args.stream.now) c.args.event) (take (c.args.count - c.places.index) (drop c.places.index (kept_of c.args.store.now.places))))
          (tokens_of (stay_of c.args.stream.now) c.args.event (get_or (kept_of c.args.store.now.places) c.places.index None))
          (flat_map (tokens_of (stay_of c.args.stream.now) c.args.event) (take (c.args.count - (c.places.index + 1)) (drop (c.places.index + 1) (kept_of c.args.store.now.places))))
          (Ok tt) c.places.handed c.take_pdu-handed.result
          (g.T.UnitTaker.calls c.args.taker.now) (g.T.UnitTaker.calls c.places.taker) (g.T.UnitTaker.calls c.take_pdu-handed.new.taker)
          (g.T.UnitTaker.counts c.args.taker.now) (g.T.UnitTaker.counts c.places.taker) (g.T.UnitTaker.counts c.take_pdu-handed.new.taker)
          c.places.invariant.walked
          (left_more (tokens_of (stay_of c.args.stream.now) c.args.event) (kept_of c.args.store.now.places) c.places.index (c.args.count - c.places.index)
          (c.args.count - (c.places.index + 1)) below (omega (arith, c.places-test.true)))
          (grind (arith, run_after, run_in, tokens_of, stay_of, read_as, segmented, vec_len))
          (grind (arith, hands, vec_len, run_in, tokens_of, stay_of, read_as, segmented)) c.take_pdu-handed.ensures.cause;
    }
