use Rattle.bass_operations.proofs.Prelude.{arith, sym, ◌∙◌, ap, err_from_is_err_and, reserved_in, option_or}
use Rattle.bass_operations.specs.Reading.{wishes_in}
use Rattle.bass_operations.specs.Scanning.{twice_in}
use Rattle.bass_operations.proofs.Read.{behind, add_no_head, add_is, add_wants, add_tail, finds, done}
use Rattle.bass_operations.proofs.reading.read_add.Goals as goal

pub returns-in_default-clause-exact : goal.returns-in_default-clause-exact
returns-in_default-clause-exact c = add_no_head c.args.rest.now c.in_default.ensures

pub wishes_behind-requires : goal.wishes_behind-requires
wishes_behind-requires c = add_tail c.args.from.now c.args.rest.now c.in-Some.add c.in-Some.count c.in-Some.subgroups.now (λ i. omega (arith, c.type_inv.from i)) c.requires c.in-Some.ensures

pub returns-in_err-add-clause-exact : goal.returns-in_err-add-clause-exact
returns-in_err-add-clause-exact c =
    let p = err_from_is_err_and c.from_residual.result c.from_residual.ensures.1 in
    rw (p.1, p.2) (finds _ _ _ _ _ c.in_err-add.field-0.0 (add_is c.args.from.now c.args.rest.now c.in-Some.add c.in-Some.count c.in-Some.subgroups.now (λ i. omega (arith, c.type_inv.from i)) c.requires c.in-Some.ensures)
    (ap (λ r. behind (wishes_in c.in-Some.count c.in-Some.subgroups.now) (option_or r (reserved_in c.args.from.now c.in-Some.count c.in-Some.subgroups.now)) (twice_in 31 1 c.in-Some.count c.in-Some.subgroups.now)) (sym c.reserved_in_add-reserved.ensures) ∙ c.in_err-add.ensures.fault))

pub returns-in_err-add-clause-memory : goal.returns-in_err-add-clause-memory
returns-in_err-add-clause-memory c =
    let p = err_from_is_err_and c.from_residual.result c.from_residual.ensures.1 in
    rw (p.1, p.2) (add_wants c.args.from.now c.args.rest.now c.in-Some.add c.in-Some.count c.in-Some.subgroups.now c.in_err-add.field-0.0 (λ i. omega (arith, c.type_inv.from i)) c.requires c.in-Some.ensures
    (ap (λ r. behind (wishes_in c.in-Some.count c.in-Some.subgroups.now) (option_or r (reserved_in c.args.from.now c.in-Some.count c.in-Some.subgroups.now)) (twice_in 31 1 c.in-Some.count c.in-Some.subgroups.now)) (sym c.reserved_in_add-reserved.ensures) ∙ c.in_err-add.ensures.fault) c.in_err-add.ensures.memory)

pub returns-clause-exact : goal.returns-clause-exact
returns-clause-exact c =
    done _ _ _ _ _ _ (add_is c.args.from.now c.args.rest.now c.in-Some.add c.in-Some.count c.in-Some.subgroups.now (λ i. omega (arith, c.type_inv.from i)) c.requires c.in-Some.ensures) c.in_ok-add.ensures.wishes
    (ap (λ r. behind (wishes_in c.in-Some.count c.in-Some.subgroups.now) (option_or r (reserved_in c.args.from.now c.in-Some.count c.in-Some.subgroups.now)) (twice_in 31 1 c.in-Some.count c.in-Some.subgroups.now)) (sym c.reserved_in_add-reserved.ensures) ∙ c.in_ok-add.ensures.faultless)
