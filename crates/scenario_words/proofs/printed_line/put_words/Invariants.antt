use Rattle.scenario_words.proofs.Prelude.{map, drop, ◌++◌, PutUpTo, joined}
use Rattle.scenario_words.specs.Joined.{behind}
use Rattle.scenario_words.specs.PrintedWords.{spelled}
use Rattle.scenario_words.proofs.printed_line.put_words.Given as goal

abbrev pub invariant-loop-word : goal.invariant-loop-word
invariant-loop-word l =
    PutUpTo l.fn.text l.text (joined l.first (map spelled l.others)) (l.waiting ++ behind (map spelled (drop l.word-index l.others)))
