use Rattle.scenario_sink.proofs.Prelude.{err_from_is_err_and, arith, refl}
use Rattle.scenario_sink.proofs.Histories.{lives_stayed}
use Rattle.scenario_sink.proofs.sink.LinkedSink.show.Goals as goal

pub returns : goal.returns
returns c source history lives = grind (arith, lives_stayed)

pub returns-in_err-show_slots : goal.returns-in_err-show_slots
returns-in_err-show_slots c source history lives = let p = err_from_is_err_and c.from_residual.result c.from_residual.ensures.1 in rw (p.1, p.2) (refl, tt)
