use Rattle.bcast_base.proofs.Prelude.{take, ap, ◌∙◌}
use Rattle.bcast_base.proofs.octets.Octets.truncate.Goals as goal

pub returns : goal.returns
returns c = c.truncate.ensures.items ∙ ap (take c.args.n) c.self.view_is
