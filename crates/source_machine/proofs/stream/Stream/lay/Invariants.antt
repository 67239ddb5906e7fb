use Rattle.source_machine.proofs.Prelude.{Lays, Tells}
use Rattle.source_machine.proofs.stream.Stream.lay.Given as goal

abbrev pub invariant-events : goal.invariant-events
invariant-events l = record {
  lays : Lays l.laying.anchor l.laying.iso_us l.n l.initial.self l.self;
  tells : Tells l.laying.anchor l.laying.iso_us l.n l.initial.self l.initial.stale l.stale;
}
