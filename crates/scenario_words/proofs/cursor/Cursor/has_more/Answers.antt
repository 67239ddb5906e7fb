use Rattle.scenario_words.proofs.MoreWords.{tells_more}
use Rattle.scenario_words.proofs.cursor.Cursor.has_more.Goals as goal

pub returns : goal.returns
returns c = rw (← c.self.view_is) (tells_more c.self.inside.rest c.is_some.result c.is_some.ensures)
