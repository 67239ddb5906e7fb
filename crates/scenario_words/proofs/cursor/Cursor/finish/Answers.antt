use Rattle.scenario_words.proofs.Prelude.{sym, ◌∙◌}
use Rattle.scenario_words.proofs.MoreWords.{too_many}
use Rattle.scenario_words.proofs.cursor.Cursor.finish.Goals as goal

pub returns-then-is_some : goal.returns-then-is_some
returns-then-is_some c = rw (← c.self.view_is) (too_many c.self.inside.rest c.self.inside.read (sym c.is_some.ensures ∙ c.if-is_some.true))
