use Rattle.scenario_words.proofs.Prelude.{◌≢◌, ◌≤◌, ◌-◌, []}
use Rattle.scenario_words.proofs.PairGroups.{GroupsSoFar}
use Rattle.scenario_words.proofs.cursor.Cursor.groups.Given as goal

abbrev pub invariant-pairs : goal.invariant-pairs
invariant-pairs l = record {
  few : l.count ≤ 31;
  some : l.self.words ≢ [] → l.fn.self.words ≢ [];
  so_far : GroupsSoFar l.count l.groups l.self l.fn.self;
}

abbrev pub decreases-pairs : goal.decreases-pairs
decreases-pairs l = 31 - l.count
