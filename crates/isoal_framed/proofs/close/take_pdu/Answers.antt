use Rattle.isoal_framed.proofs.Prelude.{length, sym, subst, append-nil, eqb-true, HandsOn}
use Rattle.std.proofs.lemmas.List.{nil_from_length}
use Rattle.iso_pdu.specs.Reading.{read_of}
use Rattle.isoal_framed.proofs.close.take_pdu.Goals as goal

pub returns-then-is_empty-clause-run : goal.returns-then-is_empty-clause-run
unfolding read_of
returns-then-is_empty-clause-run g c = rw (nil_from_length c.args.pdu.now (eqb-true (length c.args.pdu.now) 0 (sym c.if-is_empty.ensures))) c.miss.ensures.run

pub returns-then-is_empty-clause-hands : goal.returns-then-is_empty-clause-hands
unfolding read_of
returns-then-is_empty-clause-hands g c = rw (nil_from_length c.args.pdu.now (eqb-true (length c.args.pdu.now) 0 (sym c.if-is_empty.ensures))) (subst (λ units. HandsOn units c.args.so_far (g.T.UnitTaker.calls c.args.taker.now) (g.T.UnitTaker.calls c.miss.new.taker) c.miss.result) (sym (append-nil _)) c.miss.ensures.hands)
