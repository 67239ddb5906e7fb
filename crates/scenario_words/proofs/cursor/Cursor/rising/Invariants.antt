use Rattle.scenario_words.proofs.Prelude.{◌≡◌, ◌≤◌, ◌+◌, ◌-◌, rising_of}
use Rattle.scenario_words.specs.Reading.{streams_of}
use Rattle.scenario_words.proofs.cursor.Cursor.rising.Given as goal

abbrev pub invariant-indices : goal.invariant-indices
invariant-indices l = record {
  least : 1 ≤ l.last;
  greatest : l.last ≤ 31;
  rest : streams_of l.which (l.last + 1) l.self.read l.self.words ≡ rising_of l.fn.self;
}

abbrev pub decreases-indices : goal.decreases-indices
decreases-indices l = 31 - l.last
