use Rattle.scenario_sinks.proofs.Prelude.{◌≡◌, subst, sym, histories_of}
use Rattle.std.specs.Prelude.{IfOk}
use Rattle.sink_history.specs.Output.{state_where}
use Rattle.scenario_sinks.proofs.Entries.{sink_in}
use Rattle.scenario_sinks.proofs.entry.state_of_entry.Goals as goal

pub returns-in-Some : goal.returns-in-Some
returns-in-Some c box made own calls_made received entry =
    let was = sink_in box made own calls_made received c.args.entry.now c.in-Some.sink entry c.in-Some.is in
    subst (λ how. IfOk c.state.result (λ octets. octets ≡ state_where how calls_made c.args.slot)) (sym was.made_is)
    (c.state.ensures (histories_of was.how own calls_made received) was.lives)
