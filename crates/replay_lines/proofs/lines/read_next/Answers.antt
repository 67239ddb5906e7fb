use Rattle.replay_lines.proofs.Prelude.{ap}
use Rattle.replay_lines.proofs.ReadingOn.{next_is, next_within}
use Rattle.replay_lines.proofs.lines.read_next.Goals as goal

pub returns-clause-next : goal.returns-clause-next
returns-clause-next g c =
    λ left lines r. next_is left (g.S.ByteSource.left c.args.source.now) (g.S.ByteSource.left c.next_line.new.source) lines c.args.reader.now c.next_line.new.self c.next_line.result
    c.next_line.ensures.answer c.next_line.ensures.failed c.next_line.ensures.anew c.next_line.ensures.sound
    (λ over. let h = c.next_line.ensures.over over in (h.0, ap (λ s. g.S.ByteSource.left s) h.2)) c.next_line.ensures.end r

pub returns-clause-within : goal.returns-clause-within
returns-clause-within g c =
    λ left lines r. next_within left (g.S.ByteSource.left c.args.source.now) (g.S.ByteSource.left c.next_line.new.source) lines c.args.reader.now c.next_line.new.self c.next_line.result
    c.next_line.ensures.answer c.next_line.ensures.failed c.next_line.ensures.sound r
