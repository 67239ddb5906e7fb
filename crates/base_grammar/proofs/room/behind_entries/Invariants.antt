use Rattle.base_grammar.proofs.Prelude.{◌≡◌, ◌+◌, length, take, flat_map, entry}
use Rattle.base_grammar.proofs.room.behind_entries.Given as goal

abbrev pub invariant-loop-entry : goal.invariant-loop-entry
invariant-loop-entry l = l.left + length (flat_map entry (take l.entry-index l.entries)) ≡ l.room
