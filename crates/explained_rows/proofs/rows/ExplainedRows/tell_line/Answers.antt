use Rattle.explained_rows.proofs.Prelude.{◌≡◌, drop, refl, take_rest, Start, lines_told}
use Rattle.explained_rows.proofs.Telling.{either_is, row_behind}
use Rattle.explained_rows.proofs.rows.ExplainedRows.tell_line.Goals as goal

pub pass-requires : goal.pass-requires
pass-requires g c =
    let row : lines_told Start (drop c.args.beside c.args.rows.now) ≡ drop c.args.beside c.args.rows.now = rw take_rest at (c.if-not-are_lines.ensures refl) in
    rw (← c.self.view_is)
    (row_behind c.self.inside.place c.args.rows.now c.args.beside (c.if-not-ends_beside.ensures.silent refl) (c.if-not-ends_beside.ensures.no_line refl)
    (c.if-not-ends_beside.ensures.ended refl) row).0

pub returns-clause-lines : goal.returns-clause-lines
returns-clause-lines g c =
    let row : lines_told Start (drop c.args.beside c.args.rows.now) ≡ drop c.args.beside c.args.rows.now = rw take_rest at (c.if-not-are_lines.ensures refl) in
    let is = (row_behind c.self.inside.place c.args.rows.now c.args.beside (c.if-not-ends_beside.ensures.silent refl) (c.if-not-ends_beside.ensures.no_line refl)
    (c.if-not-ends_beside.ensures.ended refl) row).1 in
    rw (← c.self.view_is) (either_is c.pass.result _ _ _ _ is (rw (← c.self.view_is) at c.pass.ensures.lines))
