use Rattle.isoal_unframed.proofs.Prelude.{true, false}
use Rattle.isoal_unframed.proofs.Windows.{is_placed}
use Rattle.isoal_unframed.proofs.window.answer_at.Goals as goal

pub returns-then-not-is_empty : goal.returns-then-not-is_empty
returns-then-not-is_empty c =
    is_placed c.args.stream.now.group.info c.args.current c.args.number c.place_at-place.result c.window.result c.args.ring.now c.is_empty.result true
    c.requires.is_open c.requires.room c.window.ensures c.if-number-current.false c.if-index-window.false c.place_at-place.ensures.exact c.is_empty.ensures c.if-not-is_empty.true

pub returns : goal.returns
returns c =
    is_placed c.args.stream.now.group.info c.args.current c.args.number c.place_at-place.result c.window.result c.args.ring.now c.is_empty.result false
    c.requires.is_open c.requires.room c.window.ensures c.if-number-current.false c.if-index-window.false c.place_at-place.ensures.exact c.is_empty.ensures c.if-not-is_empty.false
