use Rattle.replay_lines.proofs.Promises.{promised_none}
use Rattle.replay_lines.proofs.text.want_of_memory_at_once.Goals as goal

pub returns : goal.returns
returns c old = promised_none old (c.laws_hold.ensures old.boxes)
