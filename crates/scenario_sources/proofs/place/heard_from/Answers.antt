use Rattle.scenario_sources.proofs.Prelude.{airs_of, airs_exist, source_calls}
use Rattle.scenario_sources.proofs.Phasing.{heard}
use Rattle.scenario_sources.proofs.place.heard_from.Goals as goal

pub returns-in-Ok-clause-ok : goal.returns-in-Ok-clause-ok
returns-in-Ok-clause-ok c own is =
    let setup = c.args.started.now.setup in
    heard own setup c.args.place.back c.args.place.bis c.args.place.subevent c.in-Ok.pdu.now is.setup
    (c.in-Ok.ensures.ok (source_calls own) (airs_of setup (source_calls own)) is.calls (airs_exist setup (source_calls own) c.heard_at.ensures.checked))
