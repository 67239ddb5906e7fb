-- What a handle becomes once the machine behind it was lent.
use Rattle.std.specs.Prelude.{Some}
use Rattle.std.specs.Borrow.{Lends, MutBor, Fml}
use Rattle.link_c.specs.declared.handle.VmLink.{VmLink}
use Rattle.link_c.specs.contracts.handle.VmLink.{the_row}
use Rattle.link_c.specs.declared.machine.LinkMachine.{LinkMachine}
use Rattle.link_c.specs.contracts.machine.LinkMachine.{the_row as machine_row}

abbrev pub with_kept : VmLink → LinkMachine → VmLink
with_kept handle machine = record handle { kept = Some machine }

-- the handle keeps what is behind the borrow as that ends
abbrev pub LendsKept : MutBor VmLink → MutBor LinkMachine → Fml
LendsKept handle machine = Lends the_row machine_row handle machine (with_kept handle.now)
