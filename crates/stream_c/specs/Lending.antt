-- What a handle becomes once the machine behind it was lent.
use Rattle.std.specs.Prelude.{Some}
use Rattle.std.specs.Borrow.{Lends, MutBor, Fml}
use Rattle.stream_c.specs.declared.handle.VmStream.{VmStream}
use Rattle.stream_c.specs.contracts.handle.VmStream.{the_row}
use Rattle.stream_c.specs.declared.machine.StreamMachine.{StreamMachine}
use Rattle.stream_c.specs.contracts.machine.StreamMachine.{the_row as machine_row}

abbrev pub with_kept : VmStream → StreamMachine → VmStream
with_kept handle machine = record handle { kept = Some machine }

-- the handle keeps what is behind the borrow as that ends
abbrev pub LendsKept : MutBor VmStream → MutBor StreamMachine → Fml
LendsKept handle machine = Lends the_row machine_row handle machine (with_kept handle.now)
