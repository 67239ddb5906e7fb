use Rattle.scenario_words.proofs.Prelude.{◌≡◌, ◌≢◌, ◌≤◌, ◌-◌, length, [], MetadataFits}
use Rattle.scenario_words.specs.Reading.{wishes_of}
use Rattle.scenario_words.proofs.cursor.Cursor.pairs.Given as goal

abbrev pub invariant-pairs : goal.invariant-pairs
invariant-pairs l = record {
  few : length l.wishes ≤ 31;
  short : MetadataFits l.wishes;
  some : l.self.words ≢ [] → l.fn.self.words ≢ [];
  rest : wishes_of l.wishes (31 - length l.wishes) l.self.read l.self.words ≡ wishes_of [] 31 l.fn.self.read l.fn.self.words;
}

abbrev pub decreases-pairs : goal.decreases-pairs
decreases-pairs l = 31 - length l.wishes
