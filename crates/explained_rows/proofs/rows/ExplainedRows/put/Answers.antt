use Rattle.explained_rows.proofs.Telling.{row_beside, row_written}
use Rattle.explained_rows.proofs.rows.ExplainedRows.put.Goals as goal

pub returns-clause-bytes : goal.returns-clause-bytes
returns-clause-bytes g c =
    rw (← c.self.view_is)
    (row_written c.self.inside.place c.after-self-inside.result (g.W.ByteSink.contents c.self.inside.inner) (g.W.ByteSink.contents c.write.new.self)
    c.in_ok-count.count c.args.from.now c.first_row-row.result.now c.first_row-row.ensures.prefix c.in_ok-count.ensures.bound
    (c.first_row-row.ensures.some c.requires.some) (rw (← c.self.view_is) at c.requires.opened) c.first_row-row.ensures.apart
    c.in_ok-count.ensures.bytes c.after-self-inside.ensures)

pub returns-clause-lines : goal.returns-clause-lines
returns-clause-lines g c =
    rw (← c.self.view_is)
    (row_beside c.self.inside.place c.after-self-inside.result (g.W.ByteSink.contents c.self.inside.inner) (g.W.ByteSink.contents c.write.new.self)
    c.in_ok-count.count c.args.from.now c.first_row-row.result.now c.first_row-row.ensures.prefix
    (c.first_row-row.ensures.some c.requires.some) (rw (← c.self.view_is) at c.requires.opened) c.first_row-row.ensures.apart
    c.in_ok-count.ensures.bytes c.after-self-inside.ensures)
