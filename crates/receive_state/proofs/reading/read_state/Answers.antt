use Rattle.receive_state.proofs.Prelude.{arith, sym, ◌∙◌, err_from_is_err_and}
use Rattle.receive_state.proofs.Read.{are_whole, is_read, reserved_group, trailing, is_value, is_done, has_group}
use Rattle.receive_state.proofs.reading.read_state.Goals as goal

pub returns-in-Some-reserved_subgroup-clause-exact : goal.returns-in-Some-reserved_subgroup-clause-exact
returns-in-Some-reserved_subgroup-clause-exact c =
    let r = is_read c.args.from.now _ _ _ _ (λ i. omega (arith, c.type_inv.from i)) c.in_ok-lent.ensures.head c.in_ok-rest.ensures.field in
    reserved_group c.args.from.now _ _ _ _ c.in-Some-reserved_subgroup.place r c.in_default.ensures c.in-Some-reserved_subgroup.ensures

pub returns-then-not-is_empty-clause-exact : goal.returns-then-not-is_empty-clause-exact
returns-then-not-is_empty-clause-exact c =
    let r = is_read c.args.from.now _ _ _ _ (λ i. omega (arith, c.type_inv.from i)) c.in_ok-lent.ensures.head c.in_ok-rest.ensures.field in
    rw c.place_of.ensures (grind (arith, trailing))

pub own_state-requires-clause-groups : goal.own_state-requires-clause-groups
own_state-requires-clause-groups c = are_whole c.args.from.now c.in_ok-lent.lent.count c.in_ok-lent.lent.groups.now c.in_ok-rest.rest.now c.in_ok-rest.ensures.field

pub returns-in_err-state-clause-exact : goal.returns-in_err-state-clause-exact
returns-in_err-state-clause-exact c =
    let r = is_read c.args.from.now _ _ _ _ (λ i. omega (arith, c.type_inv.from i)) c.in_ok-lent.ensures.head c.in_ok-rest.ensures.field in
    let p = err_from_is_err_and c.from_residual-in_err-state.result c.from_residual-in_err-state.ensures.1 in
    rw (p.1, p.2)
    (is_value c.args.from.now _ _ _ _ r c.in_default.ensures c.in_default-reserved_subgroup.ensures (sym c.is_empty.ensures ∙ c.if-not-is_empty.false))

pub returns-in_err-state-clause-memory : goal.returns-in_err-state-clause-memory
returns-in_err-state-clause-memory c wants =
    let r = is_read c.args.from.now _ _ _ _ (λ i. omega (arith, c.type_inv.from i)) c.in_ok-lent.ensures.head c.in_ok-rest.ensures.field in
    has_group c.args.from.now _ _ _ _ (λ i. omega (arith, c.type_inv.from i)) c.in_ok-lent.ensures.head r c.in_default.ensures c.in_default-reserved_subgroup.ensures
    (sym c.is_empty.ensures ∙ c.if-not-is_empty.false) c.in_err-state.ensures.err

pub returns-clause-exact : goal.returns-clause-exact
returns-clause-exact c =
    let r = is_read c.args.from.now _ _ _ _ (λ i. omega (arith, c.type_inv.from i)) c.in_ok-lent.ensures.head c.in_ok-rest.ensures.field in
    is_done c.args.from.now _ _ _ _ c.in_ok-state.state r c.in_default.ensures c.in_default-reserved_subgroup.ensures
    (sym c.is_empty.ensures ∙ c.if-not-is_empty.false) c.in_ok-state.ensures.groups c.in_ok-state.ensures.head
