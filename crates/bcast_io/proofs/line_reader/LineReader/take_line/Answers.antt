use Rattle.bcast_io.proofs.Prelude.{sym, ◌∙◌, nil_from_length}
use Rattle.bcast_io.proofs.ReadingLaws.{Finds-whole}
use Rattle.bcast_io.proofs.line_reader.LineReader.take_line.Goals as goal

pub returns-then-at-le-LINE_LIMIT-clause-found : goal.returns-then-at-le-LINE_LIMIT-clause-found
returns-then-at-le-LINE_LIMIT-clause-found c =
    let asks = c.requires in
    let whole = c.take_whole.ensures in
    Finds-whole c.args.self.now c.take_whole.new.self c.args.at asks.within asks.end asks.before asks.fits c.if-at-le-LINE_LIMIT.true (nil_from_length c.args.self.now.part (rw (← c.self.view_is) (sym c.len.ensures ∙ c.if-len-eq0.true))) whole.line whole.part whole.ahead whole.taken
