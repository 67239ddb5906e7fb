use Rattle.replay_steps.proofs.Prelude.{arith, ◌≡◌, ◌∙◌, ap, refl, sym, relay_histories}
use Rattle.scenario_sinks.specs.declared.route.Route.{Route}
use Rattle.replay_steps.proofs.Offering.{lost_unit, none_offered, offer_of, offers_dropped, offers_taken, other_unit, routes_after_relays, valid_as}
use Rattle.replay_steps.proofs.relay_steps.offer_unit.Goals as goal

pub returns-in_default : goal.returns-in_default
returns-in_default c steps own route s r =
    none_offered steps _ c.args.sources.now c.args.relays.now c.args.text.now
    (lost_unit c.args.sink own c.args.unit.now.bis c.args.unit.now.time _ (sym (rw c.in_default.is at c.octets.ensures))) s r

pub returns-then-get : goal.returns-then-get
returns-then-get c steps own route s r =
    let stream : c.args.route.now.bis ≡ own.bis = ap (λ (way : Route). way.bis) route in
    none_offered steps _ c.args.sources.now c.args.relays.now c.args.text.now
    (valid_as c.args.sink own c.args.unit.now c.in-Some.octets.now (sym (rw c.in-Some.is at c.octets.ensures))
    ∙ other_unit c.args.sink own _ _ _ (λ same. c.if-get.true (c.get.ensures.same ∙ same ∙ sym stream ∙ sym c.get-2.ensures.same))) s r

pub returns-in-Ok : goal.returns-in-Ok
returns-in-Ok c steps own route s r =
    let stream : c.args.route.now.bis ≡ own.bis = ap (λ (way : Route). way.bis) route in
    let to : own.to ≡ c.args.route.now.to = sym (ap (λ (way : Route). way.to) route) in
    let offer = offer_of c.args.sink own c.args.unit.now.time c.in-Some.octets.now in
    offers_taken steps c.args.sink own c.args.unit.now c.in-Some.octets.now c.give_second.new.sources c.give.new.self c.args.text.now (sym (rw c.in-Some.is at c.octets.ensures))
    (sym c.get.ensures.same ∙ c.if-get.false ∙ c.get-2.ensures.same ∙ stream) (c.in-Ok.ensures steps offer to refl s)
    (routes_after_relays offer c.args.route.now.to steps c.give.new.self to (c.give.ensures (relay_histories steps) r))

pub returns-in-Err-Refused : goal.returns-in-Err-Refused
returns-in-Err-Refused c steps own route s r =
    let to : own.to ≡ c.args.route.now.to = sym (ap (λ (way : Route). way.to) route) in
    let offer = offer_of c.args.sink own c.args.unit.now.time c.in-Some.octets.now in
    grind (arith, offers_dropped, c.in-Err-Refused.ensures steps offer to refl s)

pub returns-in-Err-OutletFault : goal.returns-in-Err-OutletFault
returns-in-Err-OutletFault c steps own route s r =
    let to : own.to ≡ c.args.route.now.to = sym (ap (λ (way : Route). way.to) route) in
    let offer = offer_of c.args.sink own c.args.unit.now.time c.in-Some.octets.now in
    grind (arith, c.in-Err-OutletFault.ensures steps offer to refl s)
