use Rattle.delegator_choices.proofs.Prelude.{◌∙◌, refl, sym, eq-eqb, eqb-true}
use Rattle.delegator_choices.proofs.search.is_source.Goals.{then-source-address_type, else-source-address_type}
use Rattle.delegator_choices.proofs.search.is_source.Goals as goal

pub returns-then-source-sid : goal.returns-then-source-sid
returns-then-source-sid c = rw c.are_same.ensures (elim c.if-source-address_type.branch [
  | then-source-address_type w ↦ rw (eq-eqb _ _ w.if-source-address_type.true, sym w.value-is ∙ c.if-source-sid.true) refl
  | else-source-address_type w ↦ absurd (w.if-source-address_type.false (eqb-true _ _ (sym w.value-is ∙ c.if-source-sid.true)))
])
