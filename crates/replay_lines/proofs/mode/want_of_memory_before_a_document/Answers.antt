use Rattle.replay_lines.proofs.Prelude.{[], refl, arith, Consumes-nothing}
use Rattle.replay_lines.proofs.Unread.{laws_at, wanting_toml}
use Rattle.replay_lines.proofs.mode.want_of_memory_before_a_document.Goals as goal

pub returns : goal.returns
returns c old =
    wanting_toml old old.left old.reads (record { octets = []; consumed = Consumes-nothing old.left; least = omega arith }) refl
    (laws_at c.want_of_memory_at_once.ensures old.boxes)
