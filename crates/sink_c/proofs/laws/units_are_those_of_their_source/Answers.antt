use Rattle.sink_c.proofs.Prelude.{◌∙◌, group_calls}
use Rattle.group_sink.specs.Streams.{stay_on, stream_calls}
use Rattle.sink_c.proofs.AllHanded.{ends_with}
use Rattle.sink_c.proofs.laws.units_are_those_of_their_source.Goals as goal

pub returns-clause-ends : goal.returns-clause-ends
returns-clause-ends c = λ setup calls. ends_with setup calls

pub returns-clause-framed : goal.returns-clause-framed
returns-clause-framed c = λ setup calls big_sync bis units laid at takes framed bn order closed fit source.
    c.each_stream_hands_its_units.ensures.framed big_sync (group_calls setup calls) bis framed at takes
    ∙ c.framed_units_are_struck.ensures (stay_on big_sync bis) units laid (stream_calls (stay_on big_sync bis) (group_calls setup calls)) bn order closed fit source
