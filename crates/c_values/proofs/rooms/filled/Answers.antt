use Rattle.std.proofs.Common.{Result, Ok, Err, ◌∙◌}
use Rattle.std.specs.Prelude.{IfOk, IsErr}
use Rattle.c_values.proofs.rooms.filled.Goals as goal

never_ok : {T E : Type 0} (result : Result T E) (P : T → Type 0) → IsErr result → IfOk result P
never_ok (Ok value) P err = absurd cc
never_ok (Err fault) P err = tt

pub returns-in_err-from_slice-clause-octets : goal.returns-in_err-from_slice-clause-octets
returns-in_err-from_slice-clause-octets c = never_ok c.from_residual.result _ c.from_residual.ensures.0

pub returns-in_err-from_slice-clause-ok : goal.returns-in_err-from_slice-clause-ok
returns-in_err-from_slice-clause-ok c = never_ok c.from_residual.result _ c.from_residual.ensures.0

pub returns-in_err-from_slice-clause-capacity : goal.returns-in_err-from_slice-clause-capacity
returns-in_err-from_slice-clause-capacity c = c.pop.ensures.capacity

pub returns-in_default-clause-capacity : goal.returns-in_default-clause-capacity
returns-in_default-clause-capacity c = c.pop.ensures.capacity

pub returns-then-is_err-clause-rooms : goal.returns-then-is_err-clause-rooms
returns-then-is_err-clause-rooms c = c.put_back.ensures.rooms

pub returns-then-is_err-clause-capacity : goal.returns-then-is_err-clause-capacity
returns-then-is_err-clause-capacity c = c.put_back.ensures.capacity ∙ c.pop.ensures.capacity

pub returns-clause-capacity : goal.returns-clause-capacity
returns-clause-capacity c = c.pop.ensures.capacity
