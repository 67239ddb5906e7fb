use Rattle.scenario_sources.proofs.Phasing.{sends_as}
use Rattle.scenario_sources.proofs.place.sent_from.Goals as goal

pub returns : goal.returns
returns c own is =
    let sent = c.sent_on.ensures in
    sends_as own c.args.started.now c.args.bis c.sent_on.result is sent.checked sent.sent sent.on_air sent.none
