use Rattle.bcast_io.proofs.Prelude.{arith, length, ap, ◌∙◌, ◌≡◌, ◌<◌, refl}
use Rattle.bcast_io.proofs.ReadingLaws.{Ends-line}
use Rattle.bcast_io.proofs.line_reader.LineReader.last_line.Goals as goal

pub returns-clause-ends : goal.returns-clause-ends
returns-clause-ends c =
    let end = c.end_line-read.ensures in
    let seen = c.self-2.view_is in
    let whole : c.self.inside.part ≡ c.args.self.now.part = ap (λ r. r.part) c.self.view_is in
    let some : 0 < length c.args.self.now.part = omega (arith, ap length whole, c.len.ensures, c.if-len-eq0.false) in
    Ends-line c.end_line-read.result c.args.self.now c.end_line-read.new.self _ some c.requires.empty end.names end.taken
    (ap (λ r. r.line) seen) (ap (λ r. r.part) seen ∙ end.part) (ap (λ r. r.ahead) seen ∙ end.ahead ∙ c.requires.empty) (ap (λ r. r.taken) seen) refl
