use Rattle.std.proofs.Common.{ℕ, zero, suc, ◌≡◌, ◌+◌, List, [], ◌∷◌, drop, Some, sym, ap, ◌∙◌, arith}
use Rattle.std.specs.Prelude.{slice_get}
use Rattle.source_machine.specs.declared.sent.Stale.{Stale}
use Rattle.source_c.specs.Sources.{stale_kept}
use Rattle.source_c.proofs.source.vm_source_next_stale.Goals as goal

drop_from : {A : Type 0} (xs : List A) (i : ℕ) (x : A) → slice_get xs i ≡ Some x → drop i xs ≡ x ∷ drop (i + 1) xs
drop_from [] i x is = absurd cc
drop_from (y ∷ xs) zero x is = let same : y ≡ x = cc in ap (λ z. z ∷ xs) same
drop_from (y ∷ xs) (suc i) x is =
    let next : suc i + 1 ≡ suc (i + 1) = omega arith in
    drop_from xs i x is ∙ ap (λ k. x ∷ drop k (y ∷ xs)) (sym next)

pub returns-clause-taken : goal.returns-clause-taken
returns-clause-taken c = λ done.
    let machine = c.lend-machine.result.now in
    let found : Stale = record { bis = c.get.result; time = c.item-stale.result.now.time } in
    ap stale_kept c.lend-machine.ensures.value
    ∙ drop_from machine.stale machine.told c.item-stale.result.now c.item-stale.ensures
    ∙ ap (λ bis. record { bis = bis; time = c.item-stale.result.now.time } ∷ drop (machine.told + 1) machine.stale) (sym c.get.ensures.same)
