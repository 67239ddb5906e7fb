-- What the handle of a stream owns: the machine in its block, and the right to free that block.
use Rattle.std.specs.Prelude.{Option, Some, None}
use base.Fml.{Fml, ftrue, fex}
use denote.RawPtr.{Ptr}
use Rattle.std.specs.Box.Ownership.{box_owns}
use Rattle.std_heap.specs.declared.Global.{Global}
use Rattle.std_heap.specs.contracts.GlobalAllocator.TheImpl.{ghosts}
use Rattle.stream_c.specs.declared.machine.StreamMachine.{StreamMachine}
use Rattle.stream_c.specs.contracts.machine.StreamMachine.{the_row}

abbrev pub boxed : Global → Ptr → StreamMachine → Fml
boxed alloc = box_owns (ghosts.dealloc_token alloc) the_row

abbrev pub owned : Ptr → Option StreamMachine → Fml
owned p None = ftrue
owned p (Some machine) = fex Global (λ alloc. boxed alloc p machine)
