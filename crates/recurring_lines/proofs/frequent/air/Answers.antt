use Rattle.recurring_lines.proofs.Prelude.{refl}
use Rattle.recurring_lines.proofs.frequent.air.Goals as goal

pub returns : goal.returns
returns c = record { gives = λ spare. rw (c.in-Ok.ensures.gives, c.in-Ok-octet.ensures.gives) refl }
