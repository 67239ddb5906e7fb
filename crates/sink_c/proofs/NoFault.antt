-- A result that has no fault is none.
use Rattle.sink_c.proofs.Prelude.{◌≡◌, true, None, Result}
use Rattle.std.proofs.Common.{Ok, Err}
use Rattle.std.specs.Prelude.{is_err}
use Rattle.std.specs.Result.{result_err}

pub no_fault : {T E : Type 0} (result : Result T E) → result_err result ≡ None → is_err result ≡ true → ⊥
no_fault (Ok value) none err = absurd cc
no_fault (Err fault) none err = absurd cc
