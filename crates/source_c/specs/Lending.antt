-- What a handle becomes once the machine behind it was lent.
use Rattle.std.specs.Prelude.{Some}
use Rattle.std.specs.Borrow.{Lends, MutBor, Fml}
use Rattle.source_c.specs.declared.handle.VmSource.{VmSource}
use Rattle.source_c.specs.contracts.handle.VmSource.{the_row}
use Rattle.source_c.specs.declared.machine.SourceMachine.{SourceMachine}
use Rattle.source_c.specs.contracts.machine.SourceMachine.{the_row as machine_row}

abbrev pub with_kept : VmSource → SourceMachine → VmSource
with_kept handle machine = record handle { kept = Some machine }

-- the handle keeps what is behind the borrow as that ends
abbrev pub LendsKept : MutBor VmSource → MutBor SourceMachine → Fml
LendsKept handle machine = Lends the_row machine_row handle machine (with_kept handle.now)
