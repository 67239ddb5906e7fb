use Rattle.std.proofs.Common.{◌≡◌, ◌++◌, drop}
use Rattle.std.specs.Vec.Iter.{into_iter_items}
use Rattle.replay_command.proofs.program.words_behind_name.Given as goal

abbrev pub invariant-words : goal.invariant-words
invariant-words l = l.words ++ into_iter_items l.word-iterator ≡ drop 1 (into_iter_items l.fn.args)
