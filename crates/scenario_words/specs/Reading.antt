-- What the words of a line of a scenario read as, in this project's own language: they are tried from left to right, and a
-- fault has the number of words that fit.
use Rattle.std.specs.Prelude.{◌≡◌, ◌≢◌, ℕ, zero, suc, ◌+◌, ◌-◌, ◌^◌, ◌==◌, ◌&&◌, nat_le, if◌then◌else◌, List, [], ◌∷◌, ◌++◌, length, Option, None, Some, is_none, Result, Ok, Err, codes, bytes_eq, decimal}
use Rattle.std.specs.Str.Parse.{digits_value}
use Rattle.std.specs.Int.RustNames.{bit_or}
use Rattle.std.specs.Option.{option_map, option_and_then}
use Rattle.hex.specs.Hex.{decode_of}
use Rattle.hex.specs.declared.error.FromHexError.{FromHexError}
use Rattle.bcast_base.specs.Numbers.{sum_from}
use Rattle.bass_operations.specs.declared.wishes.Wish.{Wish}
use Rattle.ltv_codec.specs.Reading.{bad_of}
use Rattle.bcast_base.specs.Tries.{◌>>=◌, FindsOrWants, GivesOrWants}
use Rattle.scenario_words.specs.declared.fault.LineFault.{LineFault}
use Rattle.scenario_words.specs.declared.fault.LineFault.TheVariants.{BadLine, Memory}
use Rattle.scenario_words.specs.declared.fault.Misfit.{Misfit}
use Rattle.scenario_words.specs.Places.{WordPlace, between, framing_word, time_up_to, octets_up_to, octets_exactly, number_in_octets, list_up_to, Place, one}
use Rattle.scenario_words.specs.Places.{perhaps, rising, wishes, WordValue, PlaceValue, most_wishes, wishes_octets}

-- the words that are left of a line, and how many were read before
pub record Left : Type 0 where
  pub words : List (List ℕ)
  pub read : ℕ

-- what a fault says of the line: nothing, where memory ran out
abbrev pub told : LineFault → Option LineFault
told (BadLine word) = Some (BadLine word)
told Memory = None

-- what a function returned is what reading gives, unless memory ran out
abbrev pub Gives : {X Y : Type 0} → (X → Y) → Result X LineFault → Result Y LineFault → Type 0
Gives view result read = GivesOrWants told view result read

-- what a reader returned, and the words that it left
abbrev pub GivesNext : {X Y : Type 0} → (X → Y) → Result X LineFault → Left → Result (Y × Left) LineFault → Type 0
GivesNext view (Ok x) left read = read ≡ Ok (view x, left)
GivesNext view (Err fault) left read = FindsOrWants (told fault) read

-- the same, where nothing is taken: then memory can't run out
abbrev pub ReadsNext : {X Y : Type 0} → (X → Y) → Result X Misfit → Left → Result (Y × Left) LineFault → Type 0
ReadsNext view (Ok x) left read = read ≡ Ok (view x, left)
ReadsNext view (Err misfit) left read = read ≡ Err (BadLine misfit.word)

-- a word that spells an octet or more
abbrev pub SpellsSome : Option (List ℕ) → Type 0
SpellsSome None = ⊥
SpellsSome (Some octets) = octets ≢ []

-- the next word does
abbrev pub SpellsNext : Result (List ℕ × Left) LineFault → Type 0
SpellsNext (Ok octets) = octets.0 ≢ []
SpellsNext (Err fault) = ⊥

-- ---- one word

abbrev pub any_word : List ℕ → Option (List ℕ)
any_word word = Some word

-- the number whose decimal the word is, from a least to a greatest
unfoldable pub decimal_in : ℕ → ℕ → List ℕ → Option ℕ
decimal_in least greatest word =
    let n = digits_value 10 word in
    if bytes_eq word (decimal n) && (nat_le least n && nat_le n greatest) then Some n else None

unfoldable pub framing_in : List ℕ → Option ℕ
framing_in word = if bytes_eq word (codes "unframed") then Some 0 else if bytes_eq word (codes "framed") then Some 1 else None

abbrev pub timed : Option ℕ → Option (Option ℕ)
timed number = option_map Some number

unfoldable pub time_in : ℕ → List ℕ → Option (Option ℕ)
time_in greatest word = if bytes_eq word (codes "-") then Some None else timed (decimal_in 0 greatest word)

abbrev pub within : ℕ → Result (List ℕ) FromHexError → Option (List ℕ)
within most (Ok bytes) = if nat_le (length bytes) most then Some bytes else None
within most (Err e) = None

unfoldable pub octets_in : ℕ → List ℕ → Option (List ℕ)
octets_in most [] = None
octets_in most (c ∷ word) = if bytes_eq (c ∷ word) (codes "-") then Some [] else within most (decode_of (c ∷ word))

abbrev pub exactly : ℕ → Result (List ℕ) FromHexError → Option (List ℕ)
exactly count (Ok bytes) = if length bytes == count then Some bytes else None
exactly count (Err e) = None

unfoldable pub exact_in : ℕ → List ℕ → Option (List ℕ)
exact_in count word = exactly count (decode_of word)

abbrev pub numbered : Option (List ℕ) → Option ℕ
numbered octets = option_map (sum_from 0) octets

unfoldable pub number_in : ℕ → List ℕ → Option ℕ
number_in count word = numbered (exact_in count word)

abbrev pub listed : Option (List ℕ) → Option (List ℕ)
listed read = option_and_then (λ octets. if is_none (bad_of octets) then Some octets else None) read

unfoldable pub list_in : ℕ → List ℕ → Option (List ℕ)
list_in most word = listed (octets_in most word)

abbrev pub word_in : (place : WordPlace) → List ℕ → Option (WordValue place)
word_in (between least greatest) word = decimal_in least greatest word
word_in framing_word word = framing_in word
word_in (time_up_to greatest) word = time_in greatest word
word_in (octets_up_to most) word = octets_in most word
word_in (octets_exactly count) word = exact_in count word
word_in (number_in_octets count) word = number_in count word
word_in (list_up_to most) word = list_in most word

-- ---- the words that are left

abbrev pub taken : {X : Type 0} → ℕ → List (List ℕ) → Option X → Result (X × Left) LineFault
taken read words None = Err (BadLine read)
taken read words (Some x) = Ok (x, record { words = words; read = read + 1 })

abbrev pub next_of : {X : Type 0} → (List ℕ → Option X) → ℕ → List (List ℕ) → Result (X × Left) LineFault
next_of fits read [] = Err (BadLine read)
next_of fits read (word ∷ words) = taken read words (fits word)

abbrev pub next : {X : Type 0} → (List ℕ → Option X) → Left → Result (X × Left) LineFault
next fits left = next_of fits left.read left.words

abbrev pub perhaps_of : ℕ → ℕ → ℕ → List (List ℕ) → Result (Option ℕ × Left) LineFault
perhaps_of least greatest read [] = Ok (None, record { words = []; read = read })
perhaps_of least greatest read (word ∷ words) = taken read words (decimal_in least greatest word) >>= λ n. Ok (Some n.0, n.1)

-- a set of streams with one more: bit i - 1 stands for index i
abbrev pub with_stream : ℕ → ℕ → ℕ
with_stream set index = bit_or set (2 ^ (index - 1))

unfoldable pub streams_of : ℕ → ℕ → ℕ → List (List ℕ) → Result (ℕ × Left) LineFault
streams_of set least read [] = Ok (set, record { words = []; read = read })
streams_of set least read (word ∷ words) =
    taken read words (decimal_in least 31 word) >>= λ n. streams_of (with_stream set n.0) (n.0 + 1) (read + 1) words

abbrev pub rising_of : Left → Result (ℕ × Left) LineFault
rising_of left = next (decimal_in 1 31) left >>= λ n. streams_of (with_stream 0 n.0) (n.0 + 1) n.1.read n.1.words

abbrev pub wish_of : Left → Result (Wish × Left) LineFault
wish_of left = do
  bits ← next (number_in 4) left
  metadata ← next (octets_in 255) bits.1
  Ok (record { bis_sync = bits.0; metadata = metadata.0 }, metadata.1)

-- the pairs that these words are, at most so many more, behind those of the words before
unfoldable pub wishes_of : List Wish → ℕ → ℕ → List (List ℕ) → Result (List Wish × Left) LineFault
wishes_of before zero read words = Ok (before, record { words = words; read = read })
wishes_of before (suc more) read [] = Ok (before, record { words = []; read = read })
wishes_of before (suc more) read (word ∷ words) = wish_of (record { words = word ∷ words; read = read })
    >>= λ wish. wishes_of (before ++ wish.0 ∷ []) more wish.1.read wish.1.words

-- together they make at most so many octets; else the number is that of the words read
abbrev pub bounded : ℕ → List Wish × Left → Result (List Wish × Left) LineFault
bounded most all = if nat_le (wishes_octets all.0) most then Ok all else Err (BadLine all.1.read)

abbrev pub all_wishes_of : ℕ → Left → Result (List Wish × Left) LineFault
all_wishes_of most left = wishes_of [] most_wishes left.read left.words >>= bounded most

abbrev pub at_place : (place : Place) → Left → Result (PlaceValue place × Left) LineFault
at_place (one place) left = next (word_in place) left
at_place (perhaps least greatest) left = perhaps_of least greatest left.read left.words
at_place rising left = rising_of left
at_place (wishes most) left = all_wishes_of most left

abbrev pub ended : ℕ → List (List ℕ) → Result (Unit {0}) LineFault
ended read [] = Ok tt
ended read (word ∷ words) = Err (BadLine read)
