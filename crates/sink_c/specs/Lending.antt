-- What a handle becomes once the machine behind it was lent.
use Rattle.std.specs.Prelude.{Some}
use Rattle.std.specs.Borrow.{Lends, MutBor, Fml}
use Rattle.sink_c.specs.declared.handle.VmSink.{VmSink}
use Rattle.sink_c.specs.contracts.handle.VmSink.{the_row}
use Rattle.sink_c.specs.declared.machine.SinkMachine.{SinkMachine}
use Rattle.sink_c.specs.contracts.machine.SinkMachine.{the_row as machine_row}

abbrev pub with_kept : VmSink → SinkMachine → VmSink
with_kept handle machine = record handle { kept = Some machine }

-- the handle keeps what is behind the borrow as that ends
abbrev pub LendsKept : MutBor VmSink → MutBor SinkMachine → Fml
LendsKept handle machine = Lends the_row machine_row handle machine (with_kept handle.now)
