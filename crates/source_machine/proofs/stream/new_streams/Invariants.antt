use Rattle.source_machine.proofs.Prelude.{ℕ, ◌≡◌, ◌<◌, ◌+◌, [], length, get_or, Stream, StreamStands}
use Rattle.source_machine.proofs.stream.new_streams.Given as goal

abbrev pub invariant-streams : goal.invariant-streams
invariant-streams l = record {
  count : length l.streams.items ≡ l.n;
  new : (k : ℕ) (none : Stream) → k < l.n → StreamStands l.group.info (k + 1) [] [] (get_or l.streams.items k none);
}
