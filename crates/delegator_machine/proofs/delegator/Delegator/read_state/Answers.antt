use Rattle.delegator_machine.proofs.Prelude.{◌∙◌, sym, ap, subst, entry_at, machine, Halves, StandsFor, arith}
use Rattle.std.proofs.lemmas.Result.{IfOk-weaker, on_err_weaker}
use Rattle.delegator_history.specs.Values.{value_at}
use Rattle.delegator_machine.proofs.Standing.{snapshot_is}
use Rattle.delegator_machine.proofs.delegator.Delegator.read_state.Goals as goal

pub returns-clause-value : goal.returns-clause-value
returns-clause-value c setup calls stands =
    let old : Halves = record { scan = machine c.self.inside.scan; sink = c.self.inside.sink } in
    let before : StandsFor setup calls old = subst (StandsFor setup calls) (sym c.self.view_is) stands in
    IfOk-weaker c.read_state.result _ _ (λ octets is. is ∙ ap (λ snapshot. value_at snapshot c.args.slot) (snapshot_is setup calls old before)) c.read_state.ensures.value

pub returns-clause-memory : goal.returns-clause-memory
returns-clause-memory c setup calls stands = grind (arith, machine, on_err_weaker, entry_at, snapshot_is)
