use Rattle.std.proofs.Common.{[], ◌∷◌}
use Rattle.multi_assist.specs.State.Places.{link_of}
use Rattle.multi_assist.proofs.Places.{put_is}
use Rattle.multi_assist.proofs.links.Links.put.Goals as goal

pub returns-clause-ok : goal.returns-clause-ok
returns-clause-ok c =
    let old = c.args.self.now in
    let notice = c.args.notice in
    λ i. c.in_ok-put_own.ensures.ok i
    ∷ put_is notice (link_of old.second) (link_of c.ready.new.self) (link_of c.put.new.self) c.in_ok-second.second c.ready.ensures.same c.in_ok-second.ensures.copy c.put.ensures i
    ∷ put_is notice (link_of old.third) (link_of c.ready-2.new.self) (link_of c.put-2.new.self) c.in_ok-third.third c.ready-2.ensures.same c.in_ok-third.ensures.copy c.put-2.ensures i
    ∷ put_is notice (link_of old.fourth) (link_of c.ready-3.new.self) (link_of c.put-3.new.self) c.in_ok-fourth.fourth c.ready-3.ensures.same c.in_ok-fourth.ensures.copy c.put-3.ensures i
    ∷ []
