use Rattle.pacs_records.proofs.Prelude.{arith, ap, refl, length, err_from_is_err_and}
use Rattle.pacs_records.proofs.Fields.{value_takes}
use Rattle.pacs_records.proofs.Whole.{refused, not_wanting}
use Rattle.pacs_records.proofs.reading.decode_records.Goals as goal

pub returns-in_err-check_value-clause-exact : goal.returns-in_err-check_value-clause-exact
returns-in_err-check_value-clause-exact c = grind (arith, err_from_is_err_and, refused)

pub returns-in_err-check_value-clause-memory : goal.returns-in_err-check_value-clause-memory
returns-in_err-check_value-clause-memory c wants =
    let p = err_from_is_err_and c.from_residual.result c.from_residual.ensures.1 in
    absurd (not_wanting c.args.from.now c.in_err-check_value.field-0.0 c.from_residual.result (λ i. omega (arith, c.type_inv.from i)) c.in_err-check_value.ensures (rw (p.1, p.2) refl) wants)

pub of-requires-clause-records : goal.of-requires-clause-records
of-requires-clause-records c = (value_takes c.args.from.now c.in_ok-list.list (λ i. omega (arith, c.type_inv.from i)) c.in_ok-list.ensures.ok).are

pub of-requires-clause-size : goal.of-requires-clause-size
of-requires-clause-size c = ap length (value_takes c.args.from.now c.in_ok-list.list (λ i. omega (arith, c.type_inv.from i)) c.in_ok-list.ensures.ok).is
