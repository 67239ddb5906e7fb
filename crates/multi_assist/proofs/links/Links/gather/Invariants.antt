use Rattle.std.proofs.Common.{◌≡◌, length}
use Rattle.multi_assist.specs.State.Gathering.{Gathered, StandsOn}
use Rattle.multi_assist.specs.State.Links.{linked}
use Rattle.multi_assist.proofs.links.Links.gather.Given as goal

-- the first notices went to the links, and the sink has the others
abbrev pub invariant-notices : goal.invariant-notices
invariant-notices l = record {
  gathered : Gathered l.fn.from.scan l.from.scan (linked l.fn.self) (linked l.self);
  terms : l.self.terms ≡ l.fn.self.terms;
  stands : StandsOn l.fn.from l.from;
  receivers : l.from.sink ≡ l.fn.from.sink;
}

abbrev pub decreases-notices : goal.decreases-notices
decreases-notices l = length l.from.scan.waiting
