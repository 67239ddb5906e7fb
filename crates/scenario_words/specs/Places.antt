-- The places of a line of a scenario, which is a language of this project: what a word may be, and which value it has.
use Rattle.std.specs.Prelude.{ℕ, ◌+◌, List, [], ◌∷◌, length, Option}
use Rattle.bass_operations.specs.declared.wishes.Wish.{Wish}

pub data WordPlace : Type 0 where
  between : ℕ → ℕ → WordPlace  -- a decimal from a least to a greatest number
  framing_word : WordPlace  -- `unframed` for 0, or `framed` for 1
  time_up_to : ℕ → WordPlace  -- `-`, or a decimal of at most this number
  octets_up_to : ℕ → WordPlace  -- octets as pairs of hexadecimal digits of either case, or `-` for none: at most so many
  octets_exactly : ℕ → WordPlace  -- exactly so many octets as pairs of hexadecimal digits
  number_in_octets : ℕ → WordPlace  -- a number in so many octets, the least octet first
  list_up_to : ℕ → WordPlace  -- an LTV list of at most so many octets

pub data Place : Type 0 where
  one : WordPlace → Place
  perhaps : ℕ → ℕ → Place  -- as the last place: a decimal from a least to a greatest number, or no word
  rising : Place  -- as the last place: one word or more, decimals from 1 to 31 of which each is above the one before
  -- as the last place: 0 to 31 pairs of words, 4 octets of BIS_Sync and at most 255 of metadata, and at most so many octets in all
  wishes : ℕ → Place

abbrev pub WordValue : WordPlace → Type 0
WordValue (between least greatest) = ℕ
WordValue framing_word = ℕ
WordValue (number_in_octets count) = ℕ
WordValue (time_up_to greatest) = Option ℕ
WordValue _ = List ℕ

abbrev pub PlaceValue : Place → Type 0
PlaceValue (one place) = WordValue place
PlaceValue (perhaps least greatest) = Option ℕ
PlaceValue rising = ℕ
PlaceValue (wishes most) = List Wish

-- the most pairs of an `add` or a `modify`
abbrev pub most_wishes : ℕ
most_wishes = 31

-- in an operation a subgroup is 4 octets of BIS_Sync, a count and metadata (Broadcast Audio Scan Service 1.0, section 3.1.1.4)
abbrev pub wishes_octets : List Wish → ℕ
wishes_octets [] = 0
wishes_octets (wish ∷ others) = 5 + length wish.metadata + wishes_octets others
