use Rattle.scenario_sinks.proofs.Prelude.{None}
use Rattle.scenario_sinks.specs.RelayHistories.{without}
use Rattle.scenario_sinks.proofs.Routes.{route_set}
use Rattle.scenario_sinks.proofs.relays.Relays.end.Goals as goal

pub returns : goal.returns
returns c past stands =
    let routes = route_set c.args.sink c.from.result c.args.self.now.routes past.routes None c.from.ensures stands.routes in
    record {
      routes = routes;
      idle = c.has_none-self.ensures (without c.args.sink past) routes;
      relayed = stands.relayed;
      given = stands.given;
    }
