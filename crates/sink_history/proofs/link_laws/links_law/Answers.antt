use Rattle.sink_history.proofs.Acts.{unforged}
use Rattle.sink_history.proofs.Agreeing.{Below, agrees}
use Rattle.sink_history.proofs.Drains.{anew, leaves}
use Rattle.sink_history.proofs.link_laws.links_law.Goals as goal

pub returns-clause-agrees : goal.returns-clause-agrees
returns-clause-agrees c =
    let below : Below = record { operations = c.read_is_operation.ensures; states = c.read_is_state.ensures; agree = c.where_nothing_waits_both_agree.ensures } in
    λ setup mtu link slot calls few within are other none quiet. agrees below setup mtu link slot calls few within are (unforged link calls other) none quiet

pub returns-clause-apart : goal.returns-clause-apart
returns-clause-apart c = leaves

pub returns-clause-anew : goal.returns-clause-anew
returns-clause-anew c = anew
