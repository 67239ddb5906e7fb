use Rattle.replay_steps.proofs.Prelude.{map, sym, ◌∙◌, handed_of}
use Rattle.replay_steps.proofs.Offering.{offers_nowhere, offers_where}
use Rattle.replay_steps.proofs.relay_steps.offer_all.Goals as goal

pub returns-in-Some : goal.returns-in-Some
returns-in-Some c steps own route s r =
    offers_where steps c.args.sink own c.in-Some.route (map handed_of c.args.units.now) c.offer_units.new.sources c.offer_units.new.relays c.args.text.now c.offer_units.new.text
    c.offer_units.result (sym c.in-Some.is ∙ route) (λ one same. c.offer_units.ensures steps one same s r)

pub returns-in-None : goal.returns-in-None
returns-in-None c steps own route s r =
    offers_nowhere steps c.args.sink own (map handed_of c.args.units.now) c.args.sources.now c.args.relays.now c.args.text.now (sym c.in-None.is ∙ route) s r
