use Rattle.bcast_io.proofs.Prelude.{◌≡◌, ◌≤◌, ◌+◌, ◌-◌, length, Consumes, document_limit}
use Rattle.bcast_io.proofs.document.read_document.Given as goal

abbrev pub invariant-pieces : goal.invariant-pieces
invariant-pieces g l = record {
  read : Consumes (g.S.ByteSource.left l.initial.source) (g.S.ByteSource.left l.source) l.octets;
  within : length l.octets ≤ document_limit + 1;
  reads : g.S.ByteSource.faults l.source ≡ g.S.ByteSource.faults l.initial.source;
}

abbrev pub decreases-pieces : goal.decreases-pieces
decreases-pieces g l = document_limit + 1 - length l.octets
