use Rattle.isoal_unframed.proofs.Prelude.{refl, sym, subst, All, arith, length-take-le, length-drop, length-replicate, Within}
use Rattle.std.proofs.lemmas.List.Elements.{All-append, All-drop, All-replicate, All-take}
use Rattle.isoal_unframed.proofs.Kept.{kept_cleared}
use Rattle.isoal_unframed.proofs.Vecs.{mid_is}
use Rattle.isoal_unframed.proofs.ring.Ring.clear.Goals as goal

pub returns-clause-kept : goal.returns-clause-kept
returns-clause-kept c = grind (arith, length-drop, length-take-le, mid_is, length-replicate, kept_cleared)

pub invariant_of-self-clause-within : goal.invariant_of-self-clause-within
invariant_of-self-clause-within c =
    let P = Within c.args.self.now.max_pdu in
    subst (All P) (sym (mid_is c.args.self.now.cells c.args.first _ c.args.places _ c.empty.new.cells c.empty.new.cells c.deref_mut.ensures.value refl (grind (arith, length-replicate, length-take-le, length-drop)) (omega arith) (omega arith))) (All-append P _ _ (All-take P _ _ c.args.self.now.within) (All-append P _ _ (subst (All P) (sym c.empty.ensures) (All-replicate P _ _ (omega arith))) (All-drop P _ _ c.args.self.now.within)))
