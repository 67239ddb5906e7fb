use Rattle.scenario_sink.proofs.Prelude.{[], sym, subst, StandsFor, Setup, its_mtu}
use Rattle.scenario_sink.proofs.sink.delegator_with.Goals as goal

pub set_mtu-requires-clause-least : goal.set_mtu-requires-clause-least
set_mtu-requires-clause-least c = (c.requires.mtu c.in-Some.mtu c.in-Some.is).0

pub set_mtu-requires-clause-most : goal.set_mtu-requires-clause-most
set_mtu-requires-clause-most c = (c.requires.mtu c.in-Some.mtu c.in-Some.is).1

pub returns-in_default : goal.returns-in_default
returns-in_default c =
    let setup : Setup = record { streams = c.args.streams; slots = c.args.slots; horizon = c.args.limits.horizon } in
    subst (λ mtu. StandsFor setup (its_mtu mtu) c.in_ok-delegator.delegator) (sym c.in_default.is) c.in_ok-delegator.ensures

pub returns : goal.returns
returns c =
    let setup : Setup = record { streams = c.args.streams; slots = c.args.slots; horizon = c.args.limits.horizon } in
    subst (λ mtu. StandsFor setup (its_mtu mtu) c.set_mtu.new.self) (sym c.in-Some.is) (c.set_mtu.ensures.stands setup [] c.in_ok-delegator.ensures)
