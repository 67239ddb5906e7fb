use Rattle.scenario_sink.proofs.Prelude.{refl}
use Rattle.scenario_sink.proofs.Born.{born_stands}
use Rattle.scenario_sink.proofs.sink.LinkedSink.new.Goals as goal

pub returns : goal.returns
returns c = record {
  stands = born_stands c.a_step_notifies_each_link.ensures (record { streams = c.args.streams; slots = c.args.slots; horizon = c.args.horizon }) c.args.mtu _ _
      c.in_ok-delegator.ensures c.in_ok-links.ensures.terms.0 c.in_ok-links.ensures.terms.1 c.in_ok-links.ensures.links;
  source_is = refl;
}
