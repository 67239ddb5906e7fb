use Rattle.base_grammar.proofs.Prelude.{◌∙◌, ap, subst, is_some, IsBase}
use Rattle.base_grammar.proofs.Places.{effective_found, effective_present, effective_only}
use Rattle.base_grammar.proofs.base.Base.effective.Goals as goal

pub returns-clause-some : goal.returns-clause-some
returns-clause-some c = effective_found c.args.self.now c.args.bis c.effective_in.result (rw (← c.self.view_is) (rw (← c.deref.ensures.value) c.effective_in.ensures))

pub returns-clause-present : goal.returns-clause-present
returns-clause-present c = ap is_some (rw (← c.self.view_is) (rw (← c.deref.ensures.value) c.effective_in.ensures)) ∙ effective_present c.args.self.now c.args.bis

pub returns-clause-only : goal.returns-clause-only
returns-clause-only c values e =
    rw (← c.self.view_is) (rw (← c.deref.ensures.value) c.effective_in.ensures) ∙ effective_only c.args.self.now c.args.bis values (subst IsBase c.self.view_is c.self.invariant) e
