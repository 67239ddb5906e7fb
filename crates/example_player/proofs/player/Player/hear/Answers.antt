use Rattle.std.proofs.Common.{ap, ◌∙◌}
use Rattle.isoal_framed.specs.State.Windows.{Window}
use Rattle.example_player.proofs.player.Player.hear.Goals as goal

pub returns-clause-plays : goal.returns-clause-plays
returns-clause-plays c stay calls plays =
    let same = c.hear.ensures.decides calls in
    record { stay_is = ap (λ (at : Window). at.stay) c.hear.ensures.step ∙ plays.stay_is; stands = c.hear.ensures.stands calls plays.stands; played = cc }
