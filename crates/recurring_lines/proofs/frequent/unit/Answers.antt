use Rattle.recurring_lines.proofs.Prelude.{refl}
use Rattle.recurring_lines.proofs.frequent.unit.Goals as goal

pub returns-in-Ok-octets_into-clause-gives : goal.returns-in-Ok-octets_into-clause-gives
returns-in-Ok-octets_into-clause-gives c = rw (c.in-Ok.ensures.gives, c.in-Ok-time.ensures, c.in-Ok-octets_into.ensures.gives) refl
