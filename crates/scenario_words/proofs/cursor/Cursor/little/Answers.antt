use Rattle.scenario_words.proofs.Arrays.{number_read, number_small}
use Rattle.scenario_words.proofs.cursor.Cursor.little.Goals as goal

pub returns-clause-range : goal.returns-clause-range
returns-clause-range g c = number_small g.row.N c.read_le.result c.args.self.now c.array.new.self c.in_ok-octets.octets c.read_le.ensures c.in_ok-octets.ensures.gives

pub returns-clause-gives : goal.returns-clause-gives
returns-clause-gives g c = number_read g.row.N c.read_le.result c.args.self.now c.array.new.self c.in_ok-octets.octets c.read_le.ensures c.in_ok-octets.ensures.gives
