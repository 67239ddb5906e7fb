use Rattle.replay_steps.proofs.Prelude.{arith, map, take, Some, sym, append-nil, airs_of, after_offers, offered_of, handed_of}
use Rattle.replay_steps.proofs.Offering.{offers_all, offers_more}
use Rattle.replay_steps.proofs.relay_steps.offer_units.Goals as goal

pub units-init : goal.units-init
units-init c = record { offered = λ steps own route s r. (s, r, sym (append-nil c.args.text.now)) }

pub units-preserved : goal.units-preserved
units-preserved c = record {
  offered = λ steps own route s r.
      let before = c.units.invariant.offered steps own route s r in
      let now = after_offers airs_of (offered_of c.args.sink (Some own) (map handed_of (take c.units.unit-index c.args.units.now))) steps in
      offers_more steps c.args.sink own c.args.units.now c.units.unit-index c.unit-item.result c.units.sources c.offer_unit.new.sources c.units.relays c.offer_unit.new.relays
      c.args.text.now c.units.text c.offer_unit.new.text c.units-test.true c.unit-item.is before (c.in-Ok.ensures now own route before.0 before.1);
}

pub returns-in-Err : goal.returns-in-Err
returns-in-Err c steps own route s r =
    let before = c.units.invariant.offered steps own route s r in
    let now = after_offers airs_of (offered_of c.args.sink (Some own) (map handed_of (take c.units.unit-index c.args.units.now))) steps in
    grind (arith, c.in-Err.ensures now own route before.0 before.1)

pub returns : goal.returns
returns c steps own route s r =
    offers_all steps c.args.sink own c.args.units.now c.units.unit-index c.units.sources c.units.relays c.args.text.now c.units.text c.units-test.false
    (c.units.invariant.offered steps own route s r)
