use Rattle.source_machine.proofs.Prelude.{◌≡◌, ◌<◌, ◌≤◌, ℕ, get_or, Stream, AllTell, Lays}
use Rattle.source_machine.proofs.stream.lay_each.Given as goal

abbrev pub invariant-streams : goal.invariant-streams
invariant-streams l = record {
  done : (k : ℕ) (none : Stream) → k < l.stream-index → Lays l.laying.anchor l.laying.iso_us l.laying.count (get_or l.initial.streams k none) (get_or l.streams k none);
  rest : (k : ℕ) (none : Stream) → l.stream-index ≤ k → get_or l.streams k none ≡ get_or l.initial.streams k none;
  told : AllTell l.laying.anchor l.laying.iso_us l.laying.count l.initial.streams l.stream-index l.initial.stale l.stale;
}
