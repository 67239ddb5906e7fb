-- A write is an operation that is served, or no operation.
use Rattle.delegator_control.proofs.Prelude.{ℕ, ◌≡◌, List, Some, OpFault, Finds, op_of, Cause, cause_of_fault, cause_read, done_read, done_by_write, Machine, moved, arith}
use Rattle.bass_operations.specs.Reading.{told}
use Rattle.delegator_control.proofs.Standing.{moved_nothing}

pub fault_step : (m : Machine) (octets : List ℕ) (fault : OpFault) (cause : Cause) → Finds (told fault) (op_of octets) → cause_of_fault fault ≡ Some cause
    → m ≡ moved (done_by_write m.snapshot octets) m
fault_step m octets fault cause fails is = grind (arith, moved_nothing, moved, done_read, cause_read)
