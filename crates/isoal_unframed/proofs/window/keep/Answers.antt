use Rattle.isoal_unframed.proofs.Prelude.{true, false, arith}
use Rattle.isoal_unframed.proofs.Kept.{length-kept}
use Rattle.isoal_unframed.proofs.Windows.{is_placed, is_put}
use Rattle.isoal_unframed.proofs.window.keep.Goals as goal

pub returns-then-not-is_empty-clause-answer : goal.returns-then-not-is_empty-clause-answer
returns-then-not-is_empty-clause-answer c =
    is_placed c.args.stream.now.group.info c.args.current c.args.number c.place_at-place.result c.window.result c.args.ring.now c.is_empty.result true
    c.requires.is_open c.requires.room c.window.ensures c.if-number-current.false c.if-index-window.false c.place_at-place.ensures.exact c.is_empty.ensures c.if-not-is_empty.true

pub returns-clause-answer : goal.returns-clause-answer
returns-clause-answer c =
    is_placed c.args.stream.now.group.info c.args.current c.args.number c.place_at-place.result c.window.result c.args.ring.now c.is_empty.result false
    c.requires.is_open c.requires.room c.window.ensures c.if-number-current.false c.if-index-window.false c.place_at-place.ensures.exact c.is_empty.ensures c.if-not-is_empty.false

pub returns-clause-step : goal.returns-clause-step
returns-clause-step c = grind (arith, length-kept, is_put)
