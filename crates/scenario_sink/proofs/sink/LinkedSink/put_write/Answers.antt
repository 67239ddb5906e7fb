use Rattle.scenario_sink.proofs.Prelude.{subst, IsOctets}
use Rattle.scenario_sink.proofs.Calls.{Here, asks, here, its_assistant}
use Rattle.scenario_sink.proofs.Results.{on_ok}
use Rattle.scenario_sink.proofs.sink.LinkedSink.put_write.Goals as goal

pub returns : goal.returns
returns c history lives on =
    let old = c.args.self.now in
    let h : Here c.args.link history old.links = here c.args.link history old.delegator old.links lives.stands on in
    let octets : IsOctets c.args.octets = subst IsOctets c.as_slice.ensures c.are_octets.ensures in
    on_ok c.put.result (search asks) (c.put.ensures h.on.assistant (its_assistant c.args.link history old.links h))
