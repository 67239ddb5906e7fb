use Rattle.std.proofs.Common.{refl, arith}
use Rattle.layouts_c.proofs.checks.air_pdu_check.Goals as goal

pub returns-in-Ok : goal.returns-in-Ok
returns-in-Ok c = record { checked = rw c.in-Ok.ensures.exact (λ no. omega (arith, no), refl); either = λ no. absurd (no refl) }

pub returns-in-Err : goal.returns-in-Err
returns-in-Err c = record { checked = rw c.in-Err.ensures.exact (refl, c.pdu_fault_for_c.ensures); either = λ _. refl }
