use Rattle.bcast_io.proofs.Prelude.{rules, ◌∙◌}
use Rattle.bcast_io.proofs.Slices.{kept_prefix}
use Rattle.bcast_io.proofs.line_buffer.LineBuffer.append.Goals as goal

pub returns : goal.returns
returns c = rw (← c.self.view_is) (c.in-Ok.ensures.items ∙ kept_prefix 9001 _ _ _ c.self.invariant.0 (search rules))
