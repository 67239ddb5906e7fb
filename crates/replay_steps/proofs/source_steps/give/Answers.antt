use Rattle.replay_steps.proofs.Prelude.{arith, refl, sym, ◌∙◌, relay_histories, UnitLine}
use Rattle.replay_steps.proofs.RelayLaws.{unit_fault}
use Rattle.replay_steps.proofs.StepLaws.{stands_beside}
use Rattle.replay_steps.proofs.Stepping.{sources_refuse}
use Rattle.replay_steps.proofs.source_steps.give.Goals as goal

pub returns-then-is_relayed : goal.returns-then-is_relayed
returns-then-is_relayed c boxes version steps machine stands sources relays e =
    let held = stands_beside steps machine (record machine { sources = c.args.sources.now; relays = c.args.relays.now }) refl (sym sources) refl (sym relays) stands in
    grind (arith, c.is_relayed.ensures steps held.sources held.relays, c.relayed.ensures version steps held.sources)

pub returns-in-Err : goal.returns-in-Err
returns-in-Err c boxes version steps machine stands sources relays e =
    let held = stands_beside steps machine (record machine { sources = c.args.sources.now; relays = c.args.relays.now }) refl (sym sources) refl (sym relays) stands in
    sources_refuse boxes version steps (UnitLine c.args.bis c.args.time c.args.octets.now) _ _ c.in-Err.stop
    (unit_fault boxes version c.args.bis c.args.time c.args.octets.now steps e
    (sym (c.is_relayed.ensures steps held.sources held.relays) ∙ c.if-is_relayed.false))
    held refl refl refl (c.in-Err.ensures version steps held.sources)

pub returns-then-chosen-ne1 : goal.returns-then-chosen-ne1
returns-then-chosen-ne1 c boxes version steps machine stands sources relays e =
    let held = stands_beside steps machine (record machine { sources = c.args.sources.now; relays = c.args.relays.now }) refl (sym sources) refl (sym relays) stands in
    let relayed = c.is_relayed.ensures steps held.sources held.relays in
    let given = c.in-Ok.ensures version steps held.sources in
    let chosen = c.chosen-chosen.ensures.source steps held.sources in
    grind arith

pub returns : goal.returns
returns c boxes version steps machine stands sources relays e =
    let held = stands_beside steps machine (record machine { sources = c.args.sources.now; relays = c.args.relays.now }) refl (sym sources) refl (sym relays) stands in
    let relayed = c.is_relayed.ensures steps held.sources held.relays in
    let given = c.in-Ok.ensures version steps held.sources in
    let chosen = c.chosen-chosen.ensures.source steps held.sources in
    grind (arith, c.give-2.ensures (relay_histories steps) held.relays)
