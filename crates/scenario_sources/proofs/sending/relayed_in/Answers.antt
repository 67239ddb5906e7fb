use Rattle.scenario_sources.proofs.Prelude.{sym, ◌∙◌, source_calls, arith}
use Rattle.scenario_sources.proofs.Phasing.{coded, relays_not}
use Rattle.scenario_sources.proofs.sending.relayed_in.Goals as goal

pub returns-then-is_ciphered : goal.returns-then-is_ciphered
returns-then-is_ciphered c version own is = grind (arith, coded)

pub returns : goal.returns
returns c version own is =
    let here = rw c.in-Sending.is at is in
    relays_not version own c.in-Sending.started c.args.bis c.args.time c.args.octets.now c.misfit.result c.misfit_refusal.result here
    (sym c.is_ciphered.ensures ∙ c.if-is_ciphered.false) (c.misfit.ensures (source_calls own) here.1.calls) c.misfit_refusal.ensures
