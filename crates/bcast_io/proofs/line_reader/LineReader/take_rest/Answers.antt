use Rattle.bcast_io.proofs.ReadingLaws.{Finds-line}
use Rattle.bcast_io.proofs.line_reader.LineReader.take_rest.Goals as goal

pub returns-clause-found : goal.returns-clause-found
returns-clause-found c =
    let asks = c.requires in
    let part = c.take_part.ensures in
    let skip = c.skip_end.ensures in
    let end = c.end_line.ensures in
    Finds-line c.end_line.result c.args.self.now c.take_part.new.self c.skip_end.new.self c.end_line.new.self c.args.at asks.within asks.end asks.before asks.fits
    part.part part.ahead part.taken skip.part skip.ahead skip.taken end.names end.part end.ahead end.taken
