-- The words that are written for a value at a place of a line of a scenario, this project's own: decimals, and octets as
-- lower-case digits or `-` for none.
use Rattle.std.specs.Prelude.{ℕ, zero, suc, ◌+◌, ◌-◌, ◌==◌, if◌then◌else◌, List, [], ◌∷◌, map, Option, None, Some, codes, decimal}
use Rattle.std.specs.Int.{bit_at}
use Rattle.hex.specs.Hex.{encode_lower}
use Rattle.bcast_base.specs.Encoding.{number}
use Rattle.scenario_words.specs.Digits.{digits}
use Rattle.bass_operations.specs.declared.wishes.Wish.{Wish}
use Rattle.scenario_words.specs.Places.{WordPlace, between, framing_word, time_up_to, octets_up_to, octets_exactly, number_in_octets, list_up_to, Place, one}
use Rattle.scenario_words.specs.Places.{perhaps, rising, wishes, WordValue, PlaceValue}

abbrev pub framing_name : ℕ → List ℕ
framing_name n = if n == 0 then codes "unframed" else codes "framed"

abbrev pub time_name : Option ℕ → List ℕ
time_name None = codes "-"
time_name (Some n) = decimal n

-- the octets of a number in so many octets, the least octet first
abbrev pub number_digits : ℕ → ℕ → List ℕ
number_digits count n = encode_lower (number count n)

abbrev pub word_for : (place : WordPlace) → WordValue place → List ℕ
word_for (between least greatest) n = decimal n
word_for framing_word n = framing_name n
word_for (time_up_to greatest) time = time_name time
word_for (octets_up_to most) octets = digits octets
word_for (octets_exactly count) octets = encode_lower octets
word_for (number_in_octets count) n = number_digits count n
word_for (list_up_to most) octets = digits octets

-- a number that may be missing: then it is no word
abbrev pub perhaps_words : Option ℕ → List (List ℕ)
perhaps_words None = []
perhaps_words (Some n) = decimal n ∷ []

-- the streams of a set among so many indices from a first one on, rising
abbrev pub streams_from : ℕ → ℕ → ℕ → List ℕ
streams_from set index zero = []
streams_from set index (suc more) =
    if bit_at set (index - 1) == 1 then index ∷ streams_from set (index + 1) more else streams_from set (index + 1) more

-- the streams of a set from 1 to 31, rising
abbrev pub streams_in : ℕ → List ℕ
streams_in set = streams_from set 1 31

abbrev pub wish_words : List Wish → List (List ℕ)
wish_words [] = []
wish_words (wish ∷ others) = number_digits 4 wish.bis_sync ∷ digits wish.metadata ∷ wish_words others

abbrev pub words_for : (place : Place) → PlaceValue place → List (List ℕ)
words_for (one place) value = word_for place value ∷ []
words_for (perhaps least greatest) value = perhaps_words value
words_for rising set = map decimal (streams_in set)
words_for (wishes most) all = wish_words all
