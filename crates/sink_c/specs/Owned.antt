-- What the handle of a sink owns: the machine in its block, and the right to free that block.
use Rattle.std.specs.Prelude.{Option, Some, None}
use base.Fml.{Fml, ftrue, fex}
use denote.RawPtr.{Ptr}
use Rattle.std.specs.Box.Ownership.{box_owns}
use Rattle.std_heap.specs.declared.Global.{Global}
use Rattle.std_heap.specs.contracts.GlobalAllocator.TheImpl.{ghosts}
use Rattle.sink_c.specs.declared.machine.SinkMachine.{SinkMachine}
use Rattle.sink_c.specs.contracts.machine.SinkMachine.{the_row}

abbrev pub boxed : Global → Ptr → SinkMachine → Fml
boxed alloc = box_owns (ghosts.dealloc_token alloc) the_row

abbrev pub owned : Ptr → Option SinkMachine → Fml
owned p None = ftrue
owned p (Some machine) = fex Global (λ alloc. boxed alloc p machine)
