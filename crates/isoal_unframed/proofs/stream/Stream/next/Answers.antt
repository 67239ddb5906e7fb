use Rattle.isoal_unframed.proofs.Prelude.{arith, refl}
use Rattle.isoal_unframed.proofs.stream.Stream.next.Goals as goal

pub returns-clause-event : goal.returns-clause-event
returns-clause-event c = refl

pub returns-clause-is_open : goal.returns-clause-is_open
returns-clause-is_open c = record { number = cc; place = c.place_behind.ensures; last = omega arith }
