-- Which values have words at a place of a line, by the places of the scenario language, which is this project's own.
use Rattle.std.specs.Prelude.{ℕ, ◌≡◌, ◌≢◌, ◌≤◌, ◌<◌, ◌*◌, ◌^◌, length, ⊤, Option, None, Some}
use Rattle.std.specs.List.{AllByRecursion}
use Rattle.bcast_base.specs.Encoding.{IsOctets}
use Rattle.bass_operations.specs.declared.wishes.Wish.{Wish}
use Rattle.ltv_codec.specs.Reading.{bad_of}
use Rattle.scenario_words.specs.Places.{WordPlace, between, framing_word, time_up_to, octets_up_to, octets_exactly, number_in_octets, list_up_to, Place, one}
use Rattle.scenario_words.specs.Places.{perhaps, rising, wishes, WordValue, PlaceValue, most_wishes, wishes_octets}

-- where there is a number, it lies from a least to a greatest
abbrev pub LiesBetween : ℕ → ℕ → Option ℕ → Type 0
LiesBetween least greatest None = ⊤
LiesBetween least greatest (Some n) = (least ≤ n) × (n ≤ greatest)

-- the value has a word at the place; octets with no bad length octet are an LTV list
abbrev pub HasWord : (place : WordPlace) → WordValue place → Type 0
HasWord (between least greatest) n = (least ≤ n) × (n ≤ greatest)
HasWord framing_word n = n ≤ 1
HasWord (time_up_to greatest) time = LiesBetween 0 greatest time
HasWord (octets_up_to most) octets = (length octets ≤ most) × IsOctets octets
HasWord (octets_exactly count) octets = (length octets ≡ count) × IsOctets octets
HasWord (number_in_octets count) n = n < 2 ^ (8 * count)
HasWord (list_up_to most) octets = (length octets ≤ most) × IsOctets octets × (bad_of octets ≡ None)

-- a pair
abbrev pub HasWishWords : Wish → Type 0
HasWishWords wish = HasWord (number_in_octets 4) wish.bis_sync × HasWord (octets_up_to 255) wish.metadata

-- the value has words at the place: a set of streams has some stream, none of them above 31
abbrev pub HasWords : (place : Place) → PlaceValue place → Type 0
HasWords (one place) value = HasWord place value
HasWords (perhaps least greatest) value = LiesBetween least greatest value
HasWords rising set = (set ≢ 0) × (set < 2 ^ 31)
HasWords (wishes most) all = (length all ≤ most_wishes) × (wishes_octets all ≤ most) × AllByRecursion HasWishWords all
