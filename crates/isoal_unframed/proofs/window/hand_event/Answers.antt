use Rattle.isoal_unframed.proofs.Prelude.{refl, ◌∙◌, ◌+◌, ◌≤◌, ◌≡◌, ◌++◌, subst, vec_len, take, drop, arith, stay_of, per_unit_of, unit_of, handed_of, owed_of, HandsOver, kept_of}
use Rattle.isoal_unframed.proofs.Places.{places_fit}
use Rattle.isoal_unframed.proofs.Windows.{place_at_most}
use Rattle.isoal_unframed.proofs.Handing.{prefix_more, behind_more, owed_more, owed_stops, owed_all}
use Rattle.isoal_unframed.proofs.window.hand_event.Goals as goal

pub hand_slot-requires : goal.hand_slot-requires
hand_slot-requires g c =
    subst (λ m. c.slots.first + m ≤ vec_len c.slots.ring.cells) c.places-places.ensures.exact
    (places_fit _ _ _ _ _ _ _ _ _ c.slots.invariant.place c.slots-test.true c.slots-slot-end.ensures c.places-places.ensures.all (place_at_most _ _ c.requires.is_open)
    (c.slots.invariant.cells ∙ c.requires.room))

pub slots-preserved : goal.slots-preserved
slots-preserved g c = record {
  cells = c.hand_slot.ensures.places ∙ c.slots.invariant.cells;
  max_pdu = c.hand_slot.ensures.max_pdu ∙ c.slots.invariant.max_pdu;
  place = omega (arith, c.slots.invariant.place);
  prefix = prefix_more c.args.current.place c.slots.first (kept_of c.args.ring.now) (kept_of c.slots.ring) (kept_of c.hand_slot.new.self)
      (omega (arith, c.slots.invariant.place)) c.slots.invariant.prefix c.hand_slot.ensures.prefix;
  behind = grind (arith, behind_more);
  handed = owed_more (stay_of c.args.stream.now) c.args.current.event c.slots.slot c.slots-slot-end.result c.time-time.result c.slots.first c.args.current.place c.places-places.result
      (kept_of c.args.ring.now) (kept_of c.slots.ring) _ _ _ c.time-time.ensures c.slots.invariant.place c.places-places.ensures.exact c.slots.invariant.behind
      c.slots-test.true c.slots-slot-end.ensures c.slots.invariant.handed c.in_ok-hand_slot.ensures.hands;
  counts = c.in_ok-hand_slot.ensures.cause ∙ c.slots.invariant.counts;
}

pub returns-in_err-hand_slot-clause-hands : goal.returns-in_err-hand_slot-clause-hands
returns-in_err-hand_slot-clause-hands g c =
    subst (λ p. HandsOver (owed_of (stay_of c.args.stream.now) c.args.current.event (drop p (kept_of c.args.ring.now)))
    (g.T.UnitTaker.calls c.args.taker.now) (g.T.UnitTaker.calls c.hand_slot.new.taker) c.from_residual.result) c.requires.is_open.place
    (owed_stops (stay_of c.args.stream.now) c.args.current.event c.slots.slot c.slots-slot-end.result
    (drop c.args.current.place (kept_of c.args.ring.now)) (g.T.UnitTaker.calls c.args.taker.now) (g.T.UnitTaker.calls c.slots.taker) (g.T.UnitTaker.calls c.hand_slot.new.taker)
    (handed_of c.args.stream.now.bis c.time-time.result (unit_of c.args.stream.now.group.info.max_sdu
    (take (per_unit_of c.args.stream.now.group.info) (drop c.slots.first (kept_of c.slots.ring)))))
    c.in_err-hand_slot.field-0.0 c.from_residual.result c.from_residual.ensures.0
    c.slots-test.true c.slots-slot-end.ensures c.slots.invariant.handed c.in_err-hand_slot.ensures.hands)

pub returns-in_err-hand_slot-clause-prefix : goal.returns-in_err-hand_slot-clause-prefix
returns-in_err-hand_slot-clause-prefix g c =
    subst (λ p. take p (kept_of c.hand_slot.new.self) ≡ take p (kept_of c.args.ring.now)) c.requires.is_open.place
    (prefix_more c.args.current.place c.slots.first (kept_of c.args.ring.now) (kept_of c.slots.ring) (kept_of c.hand_slot.new.self)
    (omega (arith, c.slots.invariant.place)) c.slots.invariant.prefix c.hand_slot.ensures.prefix)

pub returns-in_err-hand_slot-clause-behind : goal.returns-in_err-hand_slot-clause-behind
returns-in_err-hand_slot-clause-behind g c =
    subst (λ p. drop (p + c.args.stream.now.group.info.bn) (kept_of c.hand_slot.new.self) ≡ drop (p + c.args.stream.now.group.info.bn) (kept_of c.args.ring.now)) c.requires.is_open.place
    (behind_more c.slots.first _ (c.args.current.place + c.args.stream.now.group.info.bn) (kept_of c.args.ring.now) (kept_of c.slots.ring) (kept_of c.hand_slot.new.self)
    c.slots.invariant.behind c.hand_slot.ensures.behind
    (subst (λ m. c.slots.first + m ≤ c.args.current.place + c.args.stream.now.group.info.bn) c.places-places.ensures.exact
    (places_fit _ _ _ _ _ _ _ _ _ c.slots.invariant.place c.slots-test.true c.slots-slot-end.ensures c.places-places.ensures.all
    (omega arith) refl)))

pub returns-clause-hands : goal.returns-clause-hands
returns-clause-hands g c =
    subst (λ p. g.T.UnitTaker.calls c.slots.taker ≡ g.T.UnitTaker.calls c.args.taker.now ++ owed_of (stay_of c.args.stream.now) c.args.current.event (drop p (kept_of c.args.ring.now)))
    c.requires.is_open.place
    (owed_all (stay_of c.args.stream.now) c.args.current.event c.slots.slot c.slots-slot-end.result (drop c.args.current.place (kept_of c.args.ring.now))
    (g.T.UnitTaker.calls c.args.taker.now) (g.T.UnitTaker.calls c.slots.taker) c.slots-test.false c.slots-slot-end.ensures c.slots.invariant.handed)
