use Rattle.delegator_control.proofs.Prelude.{◌≡◌, ◌++◌, ◌∷◌, [], ◌∙◌, ap, arith, None, replicate}
use Rattle.std.proofs.lemmas.List.{replicate_more}
use Rattle.delegator_control.proofs.scan_delegator.empty_slots.Goals as goal

pub places-preserved : goal.places-preserved
places-preserved c = c.in_ok-push.ensures.items ∙ ap (λ slots. slots ++ None ∷ []) c.places.invariant ∙ replicate_more c.places.counter None

pub returns : goal.returns
returns c = let all : c.places.counter ≡ c.args.count = omega arith in c.places.invariant ∙ ap (λ n. replicate n None) all
