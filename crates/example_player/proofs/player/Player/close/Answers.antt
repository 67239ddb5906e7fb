use Rattle.std.proofs.Common.{◌≡◌, ◌∷◌, ◌++◌, take, ap, subst, Result}
use Rattle.unit_outlets.specs.declared.fault.TakerFault.{TakerFault}
use Rattle.isoal_base.specs.Stays.{Stay, close}
use Rattle.isoal_framed.specs.Histories.{decided, gained}
use Rattle.unit_outlets.specs.Handed.{HandsOver}
use Rattle.example_player.specs.Played.{handed_by}
use Rattle.example_player.proofs.Keeping.{plays_prefix}
use Rattle.example_player.proofs.player.Player.close.Goals as goal

pub returns-in-Err-clause-prefix : goal.returns-in-Err-clause-prefix
returns-in-Err-clause-prefix c stay calls plays =
    let old = c.args.self.now in
    let Kept : Result (Unit {0}) TakerFault → Type 0 =
    λ result. HandsOver (gained old.receiver.stay calls) (handed_by old.playlist) (handed_by c.close.new.taker) result in
    let kept = subst Kept c.in-Err.is (c.close.ensures.units calls plays.stands) in
    let HandedFrom : Stay → Type 0 = λ on. handed_by c.close.new.taker ≡ handed_by old.playlist ++ take kept.0 (gained on calls) in
    let Gains : Stay → Type 0 = λ on. decided on (close ∷ calls) ≡ decided on calls ++ gained on calls in
    plays_prefix stay calls old c.close.new.self c.close.new.taker kept.0 plays
    (c.close.ensures.stands calls plays.stands) (ap (λ window. window.stay) c.close.ensures.step)
    (subst HandedFrom plays.stay_is kept.2) (subst Gains plays.stay_is (c.close.ensures.gains calls plays.stands))
