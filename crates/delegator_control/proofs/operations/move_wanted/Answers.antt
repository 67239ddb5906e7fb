use Rattle.delegator_control.proofs.Prelude.{ℕ, ◌≡◌, ◌∙◌, true, Some, sym, arith, ne_eqb, Place, is_on_group, on_train, place_left}
use Rattle.delegator_control.proofs.operations.move_wanted.Goals as goal

leaves : (place : Place) (slot : ℕ) → is_on_group place slot ≡ true → place_left place ≡ Some (on_train slot)
leaves place slot is = grind arith

pub returns-then-not-are_same_streams : goal.returns-then-not-are_same_streams
returns-then-not-are_same_streams c = λ snapshot held.
    let on = sym c.is_on_group.ensures ∙ c.if-is_on_group.true in
    rw (sym c.is_on.ensures ∙ c.if-not-is_on.false, ne_eqb _ _ c.if-pa_sync-eq0.false, on, held, ← c.wishes.ensures, sym c.are_same_streams.ensures ∙ c.if-not-are_same_streams.true)
    (leaves _ c.args.slot on)
