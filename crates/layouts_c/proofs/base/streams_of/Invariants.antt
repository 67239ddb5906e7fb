use Rattle.base_grammar.specs.Layout.{indices, stands_in}
use Rattle.layouts_c.proofs.Streams.{SoFar}
use Rattle.layouts_c.proofs.base.streams_of.Given as goal

abbrev pub invariant-streams : goal.invariant-streams
invariant-streams l = SoFar (stands_in (indices l.base.subgroups)) l.streams l.n
