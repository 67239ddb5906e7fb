use Rattle.unit_outlets.proofs.Places.{took_at, others_same}
use Rattle.unit_outlets.proofs.outlet.take_at.Goals as goal

pub returns-clause-took : goal.returns-clause-took
returns-clause-took o c = took_at _ c.args.outlets.now.items c.args.place _ _ _ _ c.requires c.index_mut.ensures.value c.take.ensures

pub returns-clause-others : goal.returns-clause-others
returns-clause-others o c = others_same c.args.outlets.now.items c.args.place c.take.new.outlet
