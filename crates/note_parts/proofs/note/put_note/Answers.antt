use Rattle.std.proofs.Common.{arith}
use Rattle.note_parts.proofs.note.put_note.Goals as goal

pub returns : goal.returns
returns c = grind (arith, c.push.ensures.ok, c.in_ok-put_words.ensures)
