use Rattle.bcast_io.proofs.Prelude.{arith, length, length-drop, ap, sym, ◌∙◌, ◌<◌, ◌≡◌, eqb-false}
use Rattle.bcast_io.proofs.ReadingLaws.{Reads-prefix}
use Rattle.bcast_io.proofs.line_reader.LineReader.take_prefix.Goals as goal

pub returns-then-is_empty-clause-none : goal.returns-then-is_empty-clause-none
returns-then-is_empty-clause-none c =
    let asks = c.requires in
    let part = c.take_part.ensures in
    Reads-prefix c.args.self.now c.take_part.new.self c.args.n (omega arith) asks.none part.ahead part.part part.taken (omega arith)

pub returns-clause-found : goal.returns-clause-found
returns-clause-found c =
    let asks = c.requires in
    let part = c.take_part.ensures in
    let same : c.as_slice.result.now ≡ c.take_part.new.self.ahead = c.as_slice.ensures.value ∙ ap (λ r. r.ahead) c.self.view_is in
    let filled = eqb-false (length c.as_slice.result.now) 0 (sym c.is_empty.ensures ∙ c.if-is_empty.false) in
    let some : 0 < length c.take_part.new.self.ahead = omega (arith, ap length same, filled) in (
      part.line,
      record { taken = omega (arith, ap length part.ahead, length-drop c.args.n c.args.self.now.ahead); some = some },
      Reads-prefix c.args.self.now c.take_part.new.self c.args.n (omega arith) asks.none part.ahead part.part part.taken (omega arith),
    )
