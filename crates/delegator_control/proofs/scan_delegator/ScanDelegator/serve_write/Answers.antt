use Rattle.delegator_control.proofs.Prelude.{◌∙◌, arith, sym, machine}
use Rattle.delegator_control.proofs.Wanting.{fault_wants, served_wants}
use Rattle.delegator_control.proofs.Written.{fault_step}
use Rattle.delegator_control.proofs.scan_delegator.ScanDelegator.serve_write.Goals as goal

pub returns-in-Some-clause-step : goal.returns-in-Some-clause-step
returns-in-Some-clause-step c =
    fault_step (machine c.args.self.now) c.args.write.now c.in-Err.fault c.in-Some.cause c.in-Err.ensures.exact (sym c.cause_of.ensures ∙ c.in-Some.is)

pub returns-in-Ok-clause-memory : goal.returns-in-Ok-clause-memory
returns-in-Ok-clause-memory c = grind (arith, served_wants, machine)

pub returns-in-None-clause-memory : goal.returns-in-None-clause-memory
returns-in-None-clause-memory c =
    fault_wants c.in-Err.fault c.args.write.now (machine c.args.self.now).snapshot (sym c.cause_of.ensures ∙ c.in-None.is) c.in-Err.ensures.fault
    (λ op laid. (c.read_is_operation.ensures op c.args.write.now (λ i. omega (arith, c.type_inv.write i))).1 laid)
