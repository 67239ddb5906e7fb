use Rattle.scenario_sink.proofs.Prelude.{err_from_is_err_and, asked, stayed, arith, refl}
use Rattle.scenario_sink.proofs.Histories.{first_joined}
use Rattle.scenario_sink.proofs.sink.LinkedSink.put_copy.Goals as goal

pub returns : goal.returns
returns c history lives = grind (arith, stayed, asked, first_joined)

pub returns-in_err-octets : goal.returns-in_err-octets
returns-in_err-octets c history lives = let p = err_from_is_err_and c.from_residual.result c.from_residual.ensures.1 in rw (p.1, p.2) (refl, tt)

pub returns-in_err-put_write : goal.returns-in_err-put_write
returns-in_err-put_write c history lives = let p = err_from_is_err_and c.from_residual-in_err-put_write.result c.from_residual-in_err-put_write.ensures.1 in rw (p.1, p.2) (refl, tt)
