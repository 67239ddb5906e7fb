use Rattle.base_grammar.proofs.Prelude.{◌≡◌, ◌++◌, take, flat_map, entry}
use Rattle.base_grammar.proofs.writing.put_entries.Given as goal

abbrev pub invariant-loop-entry : goal.invariant-loop-entry
invariant-loop-entry l = l.out ≡ l.fn.out ++ flat_map entry (take l.entry-index l.entries)
