use Rattle.bcast_io.proofs.Prelude.{◌≡◌, ◌≤◌, ◌-◌, [], false, text_limit, Took}
use Rattle.bcast_io.proofs.line_reader.LineReader.read_on.Given as goal

abbrev pub invariant-reads : goal.invariant-reads
invariant-reads g l = record {
  took : Took l.initial.self l.self (g.S.ByteSource.left l.initial.source) (g.S.ByteSource.left l.source) [];
  empty : l.self.ahead ≡ [];
  going : l.self.over ≡ false;
  fits : l.self.taken ≤ text_limit;
  none_failed : g.S.ByteSource.faults l.source ≡ g.S.ByteSource.faults l.initial.source;
}

abbrev pub decreases-reads : goal.decreases-reads
decreases-reads g l = text_limit - l.self.taken
