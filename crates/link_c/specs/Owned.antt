-- What the handle of an assistant owns: the machine in its block, and the right to free that block.
use Rattle.std.specs.Prelude.{Option, Some, None}
use base.Fml.{Fml, ftrue, fex}
use denote.RawPtr.{Ptr}
use Rattle.std.specs.Box.Ownership.{box_owns}
use Rattle.std_heap.specs.declared.Global.{Global}
use Rattle.std_heap.specs.contracts.GlobalAllocator.TheImpl.{ghosts}
use Rattle.link_c.specs.declared.machine.LinkMachine.{LinkMachine}
use Rattle.link_c.specs.contracts.machine.LinkMachine.{the_row}

abbrev pub boxed : Global → Ptr → LinkMachine → Fml
boxed alloc = box_owns (ghosts.dealloc_token alloc) the_row

abbrev pub owned : Ptr → Option LinkMachine → Fml
owned p None = ftrue
owned p (Some machine) = fex Global (λ alloc. boxed alloc p machine)
