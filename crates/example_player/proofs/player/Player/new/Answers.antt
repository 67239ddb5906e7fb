use Rattle.std.proofs.Common.{ap}
use Rattle.isoal_framed.specs.State.Windows.{Window}
use Rattle.isoal_base.specs.Stays.{Stay}
use Rattle.example_player.proofs.Keeping.{plays_nothing}
use Rattle.example_player.proofs.player.Player.new.Goals as goal

pub returns : goal.returns
returns c =
    let stay : Stay = record {
      info = c.args.group.now.info;
      bis = c.args.bis;
      first = c.args.first_event;
      origin = c.args.anchor;
      delay = c.args.delay;
    } in
    (plays_nothing stay c.in_ok-new.field-0 c.new-2.result c.in_ok-new.ensures c.new-2.ensures, ap (λ (window : Window). window.event) c.in_ok-new.ensures)
