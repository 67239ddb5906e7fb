use Rattle.scenario_sink.proofs.Arms.{operated}
use Rattle.scenario_sink.proofs.sink.LinkedSink.put_operation.Goals as goal

pub returns : goal.returns
returns c source step history text is lives =
    operated source step c.args.octets.now history text c.put_copy.new.self c.put_copy.result is (c.put_copy.ensures history lives)
