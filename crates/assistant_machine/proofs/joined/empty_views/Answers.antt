use Rattle.std.proofs.Common.{◌≡◌, ◌++◌, ◌∷◌, [], ◌∙◌, ap, sym, subst, arith}
use Rattle.std.specs.Prelude.{All, None, replicate}
use Rattle.std.proofs.lemmas.List.{replicate_more}
use Rattle.std.proofs.lemmas.List.Elements.{All-replicate}
use Rattle.assistant_machine.specs.State.Assistants.{IsEncodedView}
use Rattle.assistant_machine.proofs.joined.empty_views.Goals as goal

pub slots-preserved : goal.slots-preserved
slots-preserved c = c.in_ok-push.ensures.items ∙ ap (λ views. views ++ None ∷ []) c.slots.invariant ∙ replicate_more c.slots.counter None

pub returns-clause-views : goal.returns-clause-views
returns-clause-views c = let all : c.slots.counter ≡ c.args.slots = omega arith in c.slots.invariant ∙ ap (λ n. replicate n None) all

pub returns-clause-encoded : goal.returns-clause-encoded
returns-clause-encoded c = subst (All IsEncodedView) (sym c.slots.invariant) (All-replicate IsEncodedView c.slots.counter None tt)
