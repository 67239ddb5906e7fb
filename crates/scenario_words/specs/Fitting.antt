-- Words that fit the first of the places of a line of a scenario, which is this project's own language: one after the other,
-- whether or not the line goes on.
use Rattle.std.specs.Prelude.{ℕ, zero, suc, ◌+◌, List, [], ◌∷◌, ⊤}
use Rattle.scenario_words.specs.Places.{WordPlace, between, octets_up_to, number_in_octets, Place, one, perhaps, rising, wishes, WordValue, most_wishes}
use Rattle.scenario_words.specs.Spelling.{SpellsWord}

-- the word fits the place: it spells a value there
abbrev pub FitsWord : WordPlace → List ℕ → Type 0
FitsWord place word = (value : WordValue place) × SpellsWord place value word

-- the words are indices from a least one on, each above the one before
abbrev pub FitsIndices : ℕ → List (List ℕ) → Type 0
FitsIndices least [] = ⊤
FitsIndices least (word ∷ words) = (n : ℕ) × SpellsWord (between least 31) n word × FitsIndices (n + 1) words

-- the words are at most so many pairs, of which the last may lack its second word
abbrev pub FitsPairs : ℕ → List (List ℕ) → Type 0
FitsPairs more [] = ⊤
FitsPairs zero (word ∷ words) = ⊥
FitsPairs (suc more) (bits ∷ []) = FitsWord (number_in_octets 4) bits
FitsPairs (suc more) (bits ∷ metadata ∷ words) =
    FitsWord (number_in_octets 4) bits × FitsWord (octets_up_to 255) metadata × FitsPairs more words

-- the words fit the first of these places
abbrev pub FitsPrefix : List Place → List (List ℕ) → Type 0
FitsPrefix places [] = ⊤
FitsPrefix [] (word ∷ words) = ⊥
FitsPrefix (one place ∷ places) (word ∷ words) = FitsWord place word × FitsPrefix places words
FitsPrefix (perhaps least greatest ∷ places) (word ∷ words) = FitsWord (between least greatest) word × FitsPrefix places words
FitsPrefix (rising ∷ places) (word ∷ words) = FitsIndices 1 (word ∷ words)
FitsPrefix (wishes most ∷ places) (word ∷ words) = FitsPairs most_wishes (word ∷ words)
