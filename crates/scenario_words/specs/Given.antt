-- Values as they are given, each with what its place in a line of a scenario asks of it: this project's own.
use Rattle.std.specs.Prelude.{ℕ, List, [], ◌∷◌, ◌++◌, ⊤}
use Rattle.scenario_words.specs.Places.{Place, PlaceValue, one, perhaps, rising, wishes, between, framing_word, time_up_to, octets_up_to, octets_exactly, number_in_octets, list_up_to}
use Rattle.scenario_words.specs.ValueFitting.{HasWords}
use Rattle.scenario_words.specs.Lines.{Values}
use Rattle.scenario_words.specs.ValueWords.{words_for}
use Rattle.scenario_words.specs.declared.value.Value.{Value}
use Rattle.scenario_words.specs.declared.value.Value.TheVariants.{Framing, Number, Sink, Link, Stream, Time, Perhaps, TwoOctets, FourOctets, Octets, Exactly, List as LtvList, Streams, Wishes}

-- a value at a place
pub data Placement : Type 0 where
  value_at : (place : Place) (value : PlaceValue place) → Placement

-- a value at its place
abbrev pub at_place : Value → Placement
at_place (Framing n) = value_at (one framing_word) n
at_place (Number n least greatest) = value_at (one (between least greatest)) n
at_place (Sink sink) = value_at (one (between 0 7)) sink
at_place (Link link) = value_at (one (between 0 3)) link
at_place (Stream bis) = value_at (one (between 1 31)) bis
at_place (Time time greatest) = value_at (one (time_up_to greatest)) time
at_place (Perhaps n least greatest) = value_at (perhaps least greatest) n
at_place (TwoOctets n) = value_at (one (number_in_octets 2)) n
at_place (FourOctets n) = value_at (one (number_in_octets 4)) n
at_place (Octets octets most) = value_at (one (octets_up_to most)) octets.now
at_place (Exactly octets count) = value_at (one (octets_exactly count)) octets.now
at_place (LtvList octets most) = value_at (one (list_up_to most)) octets.now
at_place (Streams set) = value_at rising set
at_place (Wishes all most) = value_at (wishes most) all.now

abbrev pub place_in : Placement → Place
place_in (value_at place value) = place

abbrev pub value_in : (placement : Placement) → PlaceValue (place_in placement)
value_in (value_at place value) = value

-- the places of values, and what stands at them
abbrev pub places_of : List Value → List Place
places_of [] = []
places_of (value ∷ values) = place_in (at_place value) ∷ places_of values

abbrev pub values_of : (given : List Value) → Values (places_of given)
values_of [] = tt
values_of (value ∷ values) = (value_in (at_place value), values_of values)

-- a first word, and the places behind it with a value for each
pub record Placed : Type 0 where
  pub first : List ℕ
  pub places : List Place
  pub values : Values places

abbrev pub placed : List ℕ → List Value → Placed
placed first given = record { first = first; places = places_of given; values = values_of given }

-- the value has words at its place
abbrev pub HasWordsAt : Placement → Type 0
HasWordsAt (value_at place value) = HasWords place value

abbrev pub ValueHasWords : Value → Type 0
ValueHasWords value = HasWordsAt (at_place value)

abbrev pub AllGivenHaveWords : List Value → Type 0
AllGivenHaveWords [] = ⊤
AllGivenHaveWords (value ∷ values) = ValueHasWords value × AllGivenHaveWords values

-- the words that are written for a value at its place, and for values
abbrev pub words_at : Placement → List (List ℕ)
words_at (value_at place value) = words_for place value

abbrev pub given_words : List Value → List (List ℕ)
given_words [] = []
given_words (value ∷ values) = words_at (at_place value) ++ given_words values
