-- Which words spell which value at a place: the grammar of the words of a scenario, which is this project's own language, as a
-- relation, beside which stands their reading.
use Rattle.std.specs.Prelude.{◌≡◌, ◌≢◌, ◌≤◌, ◌⊎◌, ℕ, ◌+◌, List, [], ◌∷◌, length, map, ⊤, None, Some, Ok, codes, decimal}
use Rattle.hex.specs.Hex.{decode_of}
use Rattle.bcast_base.specs.Numbers.{Le}
use Rattle.bass_operations.specs.declared.wishes.Wish.{Wish}
use Rattle.ltv_codec.specs.Reading.{bad_of}
use Rattle.scenario_words.specs.Places.{WordPlace, between, framing_word, time_up_to, octets_up_to, octets_exactly, number_in_octets, list_up_to, Place, one}
use Rattle.scenario_words.specs.Places.{perhaps, rising, wishes, WordValue, PlaceValue, most_wishes, wishes_octets}
use Rattle.scenario_words.specs.Reading.{with_stream}

-- octets as digits of either case, or `-` for none
abbrev pub SpellsOctets : ℕ → List ℕ → List ℕ → Type 0
SpellsOctets most octets word =
    ((octets ≡ []) × (word ≡ codes "-")) ⊎ ((word ≢ []) × (decode_of word ≡ Ok octets) × (length octets ≤ most))

-- the word spells the value at the place; octets with no bad length octet are an LTV list
abbrev pub SpellsWord : (place : WordPlace) → WordValue place → List ℕ → Type 0
SpellsWord (between least greatest) n word = (word ≡ decimal n) × (least ≤ n) × (n ≤ greatest)
SpellsWord framing_word n word = ((n ≡ 0) × (word ≡ codes "unframed")) ⊎ ((n ≡ 1) × (word ≡ codes "framed"))
SpellsWord (time_up_to greatest) time word =
    ((time ≡ None) × (word ≡ codes "-")) ⊎ ((n : ℕ) × (time ≡ Some n) × (word ≡ decimal n) × (n ≤ greatest))
SpellsWord (octets_up_to most) octets word = SpellsOctets most octets word
SpellsWord (octets_exactly count) octets word = (decode_of word ≡ Ok octets) × (length octets ≡ count)
SpellsWord (number_in_octets count) n word =
    (octets : List ℕ) × (decode_of word ≡ Ok octets) × (length octets ≡ count) × Le n octets
SpellsWord (list_up_to most) octets word = SpellsOctets most octets word × (bad_of octets ≡ None)

-- each index lies from a least one to 31, and above the one before
abbrev pub Rising : ℕ → List ℕ → Type 0
Rising least [] = ⊤
Rising least (index ∷ indices) = (least ≤ index) × (index ≤ 31) × Rising (index + 1) indices

-- a set of streams with these beside
abbrev pub with_streams : ℕ → List ℕ → ℕ
with_streams set [] = set
with_streams set (index ∷ indices) = with_streams (with_stream set index) indices

-- the words are the pairs of these wishes
abbrev pub SpellsWishes : List Wish → List (List ℕ) → Type 0
SpellsWishes [] words = words ≡ []
SpellsWishes (wish ∷ others) [] = ⊥
SpellsWishes (wish ∷ others) (bits ∷ []) = ⊥
SpellsWishes (wish ∷ others) (bits ∷ metadata ∷ words) =
    SpellsWord (number_in_octets 4) wish.bis_sync bits × SpellsWord (octets_up_to 255) wish.metadata metadata × SpellsWishes others words

-- the first of these words spell the value at the place, and the rest follows them
abbrev pub Spells : (place : Place) → PlaceValue place → List (List ℕ) → List (List ℕ) → Type 0
Spells (one place) value words rest = (word : List ℕ) × (words ≡ word ∷ rest) × SpellsWord place value word
Spells (perhaps least greatest) value words rest =
    ((value ≡ None) × (words ≡ []) × (rest ≡ []))
    ⊎ ((n : ℕ) × (value ≡ Some n) × (words ≡ decimal n ∷ rest) × (least ≤ n) × (n ≤ greatest))
Spells rising set words rest =
    (first : ℕ) × (others : List ℕ) × (set ≡ with_streams 0 (first ∷ others)) × (words ≡ map decimal (first ∷ others)) × (rest ≡ []) × Rising 1 (first ∷ others)
Spells (wishes most) value words rest = (length value ≤ most_wishes) × (wishes_octets value ≤ most) × SpellsWishes value words × (rest ≡ [])
