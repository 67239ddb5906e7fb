use Rattle.std.proofs.Common.{refl}
use Rattle.std.proofs.lemmas.Result.{err_from_is_err_and}
use Rattle.unit_outlets.proofs.last_units.LastUnitsOutlet.take.Goals as goal

pub returns-in_err-unit-in-Some-clause-took : goal.returns-in_err-unit-in-Some-clause-took
returns-in_err-unit-in-Some-clause-took c =
    let p = err_from_is_err_and c.from_residual.result c.from_residual.ensures.1 in
    let fits = rw c.in-Some.is at c.with_unit.ensures in
    rw (← c.self.view_is, p.1, p.2) (fits.0, refl)
