use Rattle.std.proofs.Common.{false, refl}
use Rattle.std.proofs.lemmas.List.{length-replicate}
use Rattle.multi_assist.specs.State.Links.{slots_of}
use Rattle.multi_assist.proofs.links.Links.assist.Goals as goal

pub returns-clause-ok : goal.returns-clause-ok
returns-clause-ok c =
    rw (c.set.ensures.links, c.joined.ensures, c.ask_all.ensures.step, c.in_ok-assistant.ensures, length-replicate (slots_of c.args.self.now) false) refl
