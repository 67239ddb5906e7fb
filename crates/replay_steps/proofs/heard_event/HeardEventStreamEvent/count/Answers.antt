use Rattle.replay_steps.proofs.Prelude.{sym, ◌∙◌}
use Rattle.replay_steps.proofs.Airing.{unlost_count}
use Rattle.replay_steps.proofs.heard_event.HeardEventStreamEvent.count.Goals as goal

pub returns : goal.returns
returns c = c.count.ensures.count ∙ sym (unlost_count c.args.self.now.sent.now c.args.self.now.lost.now)
