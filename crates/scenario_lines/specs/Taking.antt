-- Where reading a line of a scenario, this project's own language, takes memory: at a word that spells an octet where octets
-- or a list of them may stand, and at the pairs of words of an operation.
use Rattle.std.specs.Prelude.{◌≡◌, ◌||◌, ℕ, Bool, true, false, List, [], ◌∷◌, length, nat_lt, Option, None, Some, Result, Ok, Err, IsOkAnd}
use Rattle.scenario_words.specs.declared.fault.LineFault.{LineFault}
use Rattle.scenario_words.specs.Words.{words_of}
use Rattle.scenario_words.specs.Places.{WordPlace, octets_up_to, list_up_to, Place, one, wishes}
use Rattle.scenario_words.specs.Reading.{Left, any_word, at_place, next, octets_in}
use Rattle.scenario_text.specs.Table.{Row, row_of}

-- the word that was read spells an octet or more
abbrev pub spells : Result (List ℕ × Left) LineFault → Bool
spells (Ok octets) = nat_lt 0 (length octets.0)
spells (Err fault) = false

-- octets of a given count and numbers have their room in the step itself
abbrev pub word_takes : WordPlace → Left → Bool
word_takes (octets_up_to most) left = spells (next (octets_in most) left)
word_takes (list_up_to most) left = spells (next (octets_in most) left)
word_takes place left = false

abbrev pub place_takes : Place → Left → Bool
place_takes (one place) left = word_takes place left
place_takes (wishes most) left = nat_lt 0 (length left.words)
place_takes place left = false

-- what is left behind a place, where its words fit
abbrev pub behind : {X : Type 0} → Result (X × Left) LineFault → (Left → Bool) → Bool
behind (Ok value) f = f value.1
behind (Err fault) f = false

-- the words at one of these places do, each place behind the one before
abbrev pub some_takes : List Place → Left → Bool
some_takes [] left = false
some_takes (place ∷ places) left = place_takes place left || behind (at_place place left) (some_takes places)

-- the words of this row
abbrev pub RowTakes : Option Row → Left → Type 0
RowTakes None left = ⊥
RowTakes (Some row) left = some_takes row.places left ≡ true

-- the words behind the first word of the line, by the row of that word
abbrev pub LineTakes : ℕ → List ℕ → Type 0
LineTakes version line = IsOkAnd (next any_word (record { words = words_of line; read = 0 })) (λ first. RowTakes (row_of version first.0) first.1)
