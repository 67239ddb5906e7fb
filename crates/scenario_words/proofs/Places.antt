-- A value has words at a place exactly where some words spell it there, and the words that are written for it do.
use Rattle.scenario_words.proofs.Prelude.{◌≡◌, ◌≢◌, ◌≤◌, ◌<◌, ◌+◌, ◌*◌, ◌^◌, ℕ, true, nat_eq, List, [], ◌∷◌, ◌++◌, length, map, Option, Ok, refl, ap, subst, ◌∙◌, arith, inl, inr, decimal, ⊤, AllByRecursion, append-nil, decode_of, sum_from, IsOctets, number-length, number_below, Wish, digits, WordPlace, between, framing_word, time_up_to, octets_up_to, octets_exactly, number_in_octets, list_up_to, Place, one, perhaps, rising, wishes, WordValue, PlaceValue, SpellsOctets, SpellsWord, Rising, with_streams, SpellsWishes, Spells, ltb-true, LiesBetween, HasWord, HasWishWords, HasWords, word_for, words_for, streams_in, wish_words, framing_name, time_name, perhaps_words}
use Rattle.bcast_base.specs.Encoding.{number}
use Rattle.scenario_words.proofs.Citable.{is_small}
use Rattle.scenario_words.proofs.Octets.{digits_back, octets_from, some_digits, number_octets, number_sum}
use Rattle.scenario_words.proofs.Spaces.{NoSpace, NoSpaces, decimal_unspaced, digits_unspaced, octets_unspaced}
use Rattle.scenario_words.proofs.ValueStreams.{streams_rise, all_streams, some_stream, streams_small, streams_some}

-- ---- one word

octets_spelled : (most : ℕ) (octets : List ℕ) → length octets ≤ most → IsOctets octets → SpellsOctets most octets (digits octets)
octets_spelled most [] short h = inl (refl, refl)
octets_spelled most (octet ∷ octets) short h = inr (some_digits octet octets, digits_back (octet ∷ octets) h, short)

framing_spelled : (n : ℕ) → n ≤ 1 → SpellsWord framing_word n (framing_name n)
framing_spelled n h = grind arith

time_spelled : (greatest : ℕ) (time : Option ℕ) → LiesBetween 0 greatest time → SpellsWord (time_up_to greatest) time (time_name time)
time_spelled greatest time h = grind arith

pub word_spelled : (place : WordPlace) (value : WordValue place) → HasWord place value → SpellsWord place value (word_for place value)
word_spelled (between least greatest) n h = (refl, h.0, h.1)
word_spelled framing_word n h = framing_spelled n h
word_spelled (time_up_to greatest) time h = time_spelled greatest time h
word_spelled (octets_up_to most) octets h = octets_spelled most octets h.0 h.1
word_spelled (octets_exactly count) octets h = (digits_back octets h.1, h.0)
word_spelled (number_in_octets count) n h = (number count n, digits_back (number count n) (number_octets count n), number-length count n, number_sum count n h)
word_spelled (list_up_to most) octets h = (octets_spelled most octets h.0 h.1, h.2)

no_octets : IsOctets []
no_octets i = omega arith

octets_fit : (most : ℕ) (octets word : List ℕ) → SpellsOctets most octets word → (length octets ≤ most) × IsOctets octets
octets_fit most octets word h = grind (arith, no_octets, octets_from)

number_fits : (count n : ℕ) (word octets : List ℕ) → decode_of word ≡ Ok octets → length octets ≡ count → n ≡ sum_from 0 octets → n < 2 ^ (8 * count)
number_fits count n word octets e long is = rw (is, ← long) (number_below octets (octets_from word octets e))

word_fits : (place : WordPlace) (value : WordValue place) (word : List ℕ) → SpellsWord place value word → HasWord place value
word_fits (between least greatest) n word h = (h.1, h.2)
word_fits framing_word n word h = elim h [ inl plain ↦ omega (arith, plain.0) | inr framed ↦ omega (arith, framed.0) ]
word_fits (time_up_to greatest) time word h = elim h [ inl none ↦ rw none.0 tt | inr some ↦ rw some.1 (omega arith, some.3) ]
word_fits (octets_up_to most) octets word h = octets_fit most octets word h
word_fits (octets_exactly count) octets word h = (h.1, octets_from word octets h.0)
word_fits (number_in_octets count) n word h = number_fits count n word h.0 h.1 h.2 h.3
word_fits (list_up_to most) octets word h = let few = octets_fit most octets word h.0 in (few.0, few.1, h.1)

-- ---- the words of a place

-- a place that takes all words that are left stands last
abbrev pub EndsAt : Place → List (List ℕ) → Type 0
EndsAt (one place) rest = ⊤
EndsAt (perhaps least greatest) rest = rest ≡ []
EndsAt rising rest = rest ≡ []
EndsAt (wishes most) rest = rest ≡ []

perhaps_spelled : (least greatest : ℕ) (value : Option ℕ) → LiesBetween least greatest value → Spells (perhaps least greatest) value (perhaps_words value) []
perhaps_spelled least greatest value h = grind arith

rising_spelled : (set : ℕ) → set ≢ 0 → set < 2 ^ 31 → Spells rising set (map decimal (streams_in set)) []
rising_spelled set some small =
    let all = all_streams set small in
    let first = some_stream set (streams_in set) some all in (
      first.0,
      first.1,
      all ∙ ap (with_streams 0) first.2,
      ap (map decimal) first.2,
      refl,
      subst (Rising 1) first.2 (streams_rise set),
    )

wishes_spelled : (all : List Wish) → AllByRecursion HasWishWords all → SpellsWishes all (wish_words all)
wishes_spelled [] h = refl
wishes_spelled (wish ∷ others) h =
    (word_spelled (number_in_octets 4) wish.bis_sync h.0.0, word_spelled (octets_up_to 255) wish.metadata h.0.1, wishes_spelled others h.1)

none_behind : (place : Place) (value : PlaceValue place) (words rest : List (List ℕ)) → rest ≡ [] → Spells place value words [] → Spells place value (words ++ rest) rest
none_behind place value words rest none h = rw (none, append-nil words) h

pub words_spelled : (place : Place) (value : PlaceValue place) (rest : List (List ℕ)) → EndsAt place rest → HasWords place value → Spells place value (words_for place value ++ rest) rest
words_spelled (one place) value rest last h = (word_for place value, refl, word_spelled place value h)
words_spelled (perhaps least greatest) value rest last h =
    none_behind (perhaps least greatest) value (perhaps_words value) rest last (perhaps_spelled least greatest value h)
words_spelled rising set rest last h = none_behind rising set (map decimal (streams_in set)) rest last (rising_spelled set h.0 h.1)
words_spelled (wishes most) all rest last h = none_behind (wishes most) all (wish_words all) rest last (h.0, h.1, wishes_spelled all h.2, refl)

wishes_have : (all : List Wish) (words : List (List ℕ)) → SpellsWishes all words → AllByRecursion HasWishWords all
wishes_have (wish ∷ others) (bits ∷ metadata ∷ words) h =
    ((word_fits (number_in_octets 4) wish.bis_sync bits h.0, word_fits (octets_up_to 255) wish.metadata metadata h.1), wishes_have others words h.2)
wishes_have all words h = search (word_fits, number_in_octets, octets_up_to)

pub words_fit : (place : Place) (value : PlaceValue place) (words rest : List (List ℕ)) → Spells place value words rest → HasWords place value
words_fit (one place) value words rest h = word_fits place value h.0 h.2
words_fit (perhaps least greatest) value words rest h = elim h [ inl none ↦ rw none.0 tt | inr some ↦ rw some.1 (some.3, some.4) ]
words_fit rising set words rest h = rw h.2 (streams_some h.0 h.1, streams_small (h.0 ∷ h.1) 0 1 (omega arith) (omega arith) h.5)
words_fit (wishes most) all words rest h = (h.0, h.1, wishes_have all words h.2)

-- ---- no word has a space

framing_unspaced : (n : ℕ) → NoSpace (framing_name n)
framing_unspaced n = grind (arith, nat_eq)

time_unspaced : (greatest : ℕ) (time : Option ℕ) → greatest < 2 ^ 64 → LiesBetween 0 greatest time → NoSpace (time_name time)
time_unspaced greatest time small h = grind (arith, decimal_unspaced)

word_unspaced : (place : WordPlace) (value : WordValue place) → is_small (one place) ≡ true → HasWord place value → NoSpace (word_for place value)
word_unspaced (between least greatest) n small h = decimal_unspaced n (omega (arith, h.1, ltb-true greatest (2 ^ 64) small))
word_unspaced framing_word n small h = framing_unspaced n
word_unspaced (time_up_to greatest) time small h = time_unspaced greatest time (ltb-true greatest (2 ^ 64) small) h
word_unspaced (octets_up_to most) octets small h = octets_unspaced octets h.1
word_unspaced (octets_exactly count) octets small h = digits_unspaced octets h.1
word_unspaced (number_in_octets count) n small h = digits_unspaced (number count n) (number_octets count n)
word_unspaced (list_up_to most) octets small h = octets_unspaced octets h.1

perhaps_unspaced : (least greatest : ℕ) (value : Option ℕ) → greatest < 2 ^ 64 → LiesBetween least greatest value → NoSpaces (perhaps_words value)
perhaps_unspaced least greatest value small h = grind (arith, decimal_unspaced)

decimals_unspaced : (least : ℕ) (indices : List ℕ) → Rising least indices → NoSpaces (map decimal indices)
decimals_unspaced least [] r = tt
decimals_unspaced least (index ∷ indices) r = (decimal_unspaced index (omega (arith, r.1)), decimals_unspaced (index + 1) indices r.2)

wishes_unspaced : (all : List Wish) → AllByRecursion HasWishWords all → NoSpaces (wish_words all)
wishes_unspaced [] h = tt
wishes_unspaced (wish ∷ others) h =
    (digits_unspaced (number 4 wish.bis_sync) (number_octets 4 wish.bis_sync), (octets_unspaced wish.metadata h.0.1.1, wishes_unspaced others h.1))

pub words_unspaced : (place : Place) (value : PlaceValue place) → is_small place ≡ true → HasWords place value → NoSpaces (words_for place value)
words_unspaced (one place) value small h = (word_unspaced place value small h, tt)
words_unspaced (perhaps least greatest) value small h = perhaps_unspaced least greatest value (ltb-true greatest (2 ^ 64) small) h
words_unspaced rising set small h = decimals_unspaced 1 (streams_in set) (streams_rise set)
words_unspaced (wishes most) all small h = wishes_unspaced all h.2
