use Rattle.scenario_sinks.proofs.Prelude.{rules, arith, Some}
use Rattle.scenario_sinks.proofs.Routes.{not_idle, route_set}
use Rattle.scenario_sinks.proofs.relays.Relays.relay.Goals as goal

pub returns : goal.returns
returns c past stands = record {
  routes = route_set c.args.sink c.from.result c.args.self.now.routes past.routes (Some (record { bis = c.args.bis; to = c.args.to })) c.from.ensures stands.routes;
  idle = not_idle c.args.sink c.args.bis c.args.to past (let sink = c.requires in omega (arith, sink));
  relayed = search rules;
  given = stands.given;
}
