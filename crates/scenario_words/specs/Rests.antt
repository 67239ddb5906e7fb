-- What is left of a line of a scenario, this project's own, behind a word: nothing, or the octets after the space.
use Rattle.std.specs.Prelude.{ℕ, ◌+◌, List, [], length, Option, None, Some}
use Rattle.std.specs.Borrow.{Bor}
use Rattle.scenario_words.specs.Words.{words_of}

abbrev pub words_after : Option (Bor (List ℕ)) → List (List ℕ)
words_after None = []
words_after (Some rest) = words_of rest.now

-- its octets, with the space
abbrev pub octets_after : Option (Bor (List ℕ)) → ℕ
octets_after None = 0
octets_after (Some rest) = length rest.now + 1
