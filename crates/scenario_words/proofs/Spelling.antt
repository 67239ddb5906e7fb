-- One place of a line: what is read is spelled so, and what is spelled so is read. Upper crates may cite `place_spelled`,
-- `place_again`, `word_spelled`, `word_again` and `is_small`.
use Rattle.scenario_words.proofs.Prelude.{◌≡◌, ◌≤◌, ◌<◌, ℕ, zero, suc, ◌+◌, ◌^◌, Bool, true, false, cond, nat_lt, nat_le, List, [], ◌∷◌, ◌++◌, length, map, Option, None, Some, Result, Ok, refl, ap, sym, subst, ◌∙◌, arith, decimal, ◌⊎◌, inl, inr, codes, get_or, bytes_eq, bytes_eq-Decides, ltb-true, leb-true, nil_from_length, append_assoc, append-nil, digits_decimal, decimal_nonempty, decode_of, decode_of-ok, sum_from, Wish, bad_of, LineFault, WordPlace, between, framing_word, time_up_to, octets_up_to, octets_exactly, number_in_octets, list_up_to, Place, one, perhaps, rising, wishes, WordValue, PlaceValue, wishes_octets, ◌>>=◌, bind_ok, ok_is, Left, next_of, taken, timed, within, numbered, word_in, perhaps_of, with_stream, rising_of, wish_of, bounded, all_wishes_of, at_place, SpellsOctets, SpellsWord, Rising, with_streams, SpellsWishes, Spells}
use Rattle.scenario_words.specs.Reading.{decimal_in, framing_in, time_in, octets_in, exact_in, number_in, list_in, streams_of, wishes_of}
use Rattle.scenario_words.proofs.Decimals.{own}
use Rattle.scenario_words.proofs.OneWord.{decimal_range, decimal_is, decimal_fits, within_is, array_is, exactly_is, list_is}
use Rattle.scenario_words.proofs.OneWord.{pairs as pairs_read}
use Rattle.scenario_words.proofs.WishWords.{wishes_fit}
use Rattle.scenario_words.proofs.Splitting.{refused}

-- ---- places whose greatest number fits 64 bits

abbrev pub is_small : Place → Bool
is_small (one (between least greatest)) = nat_lt greatest (2 ^ 64)
is_small (one (time_up_to greatest)) = nat_lt greatest (2 ^ 64)
is_small (one _) = true
is_small (perhaps least greatest) = nat_lt greatest (2 ^ 64)
is_small rising = true
is_small (wishes most) = true

-- ---- what is spelled so is read

no_dash : (n : ℕ) → n < 2 ^ 64 → bytes_eq (decimal n) (45 ∷ []) ≡ false
no_dash n fits = grind (arith, refused, decimal, bytes_eq-Decides, digits_decimal, own, decimal_nonempty, get_or)

octets_again : (most : ℕ) (octets word : List ℕ) → SpellsOctets most octets word → octets_in most word ≡ Some octets
unfolding octets_in
octets_again most octets word h = grind (arith, decode_of-ok, length, pairs_read, nil_from_length, refused, bytes_eq-Decides, one)

number_again : (count n : ℕ) (word octets : List ℕ) → decode_of word ≡ Ok octets → length octets ≡ count → n ≡ sum_from 0 octets → number_in count word ≡ Some n
unfolding number_in
number_again count n word octets e whole is = let this : exact_in count word ≡ Some octets = array_is count word octets e whole in rw (this, is) refl

list_again : (most : ℕ) (octets word : List ℕ) → SpellsOctets most octets word → bad_of octets ≡ None → list_in most word ≡ Some octets
unfolding list_in
list_again most octets word h are = let this : octets_in most word ≡ Some octets = octets_again most octets word h in rw (this, are) refl

decimal_again : (least greatest n : ℕ) (word : List ℕ) → nat_lt greatest (2 ^ 64) ≡ true → word ≡ decimal n → least ≤ n → n ≤ greatest → decimal_in least greatest word ≡ Some n
decimal_again least greatest n word small e low high = decimal_fits least greatest n word (omega (arith, ltb-true greatest (2 ^ 64) small)) e low high

pub word_again : (place : WordPlace) (value : WordValue place) (word : List ℕ) → is_small (one place) ≡ true → SpellsWord place value word → word_in place word ≡ Some value
unfolding framing_in time_in
word_again (between least greatest) n word small h = decimal_again least greatest n word small h.0 h.1 h.2
word_again framing_word n word small h = elim h [ inl plain ↦ rw (plain.0, plain.1) refl | inr framed ↦ rw (framed.0, framed.1) refl ]
word_again (time_up_to greatest) time word small h = elim h [
  | inl none ↦ rw (none.0, none.1) refl
  | inr some ↦
      let fits : some.0 < 2 ^ 64 = omega (arith, ltb-true greatest (2 ^ 64) small, some.3) in
      let other : bytes_eq (decimal some.0) (45 ∷ []) ≡ false = no_dash some.0 fits in
      let this : decimal_in 0 greatest (decimal some.0) ≡ Some some.0 = decimal_fits 0 greatest some.0 (decimal some.0) fits refl (omega arith) some.3 in
      rw (some.1, some.2, other, this) refl
]
word_again (octets_up_to most) octets word small h = octets_again most octets word h
word_again (octets_exactly count) octets word small h = array_is count word octets h.0 h.1
word_again (number_in_octets count) n word small h = number_again count n word h.0 h.1 h.2 h.3
word_again (list_up_to most) octets word small h = list_again most octets word h.0 h.1

abbrev left_of : List (List ℕ) → ℕ → Left
left_of words read = record { words = words; read = read }

streams_again : (indices : List ℕ) (set least read : ℕ) → Rising least indices → (k : ℕ) × (streams_of set least read (map decimal indices) ≡ Ok (with_streams set indices, left_of [] k))
unfolding streams_of
streams_again [] set least read fits = (read, refl)
streams_again (index ∷ indices) set least read fits =
    let rest = streams_again indices (with_stream set index) (index + 1) (read + 1) fits.2 in
    let this : decimal_in least 31 (decimal index) ≡ Some index = decimal_fits least 31 index (decimal index) (omega (arith, fits.1)) refl fits.0 fits.1 in
    (rest.0, rw this rest.1)

wishes_again : (all before : List Wish) (more read : ℕ) (words : List (List ℕ)) → length all ≤ more → SpellsWishes all words
    → (k : ℕ) × (wishes_of before more read words ≡ Ok (before ++ all, left_of [] k))
unfolding wishes_of
wishes_again [] before zero read words few e = (read, rw (e, append-nil before) refl)
wishes_again [] before (suc more) read words few e = (read, rw (e, append-nil before) refl)
wishes_again (wish ∷ others) before zero read words few e = absurd (omega arith)
wishes_again (wish ∷ others) before (suc more) read (bits ∷ metadata ∷ words) few e =
    let first : number_in 4 bits ≡ Some wish.bis_sync = word_again (number_in_octets 4) wish.bis_sync bits refl e.0 in
    let second : octets_in 255 metadata ≡ Some wish.metadata = octets_again 255 wish.metadata metadata e.1 in
    let rest = wishes_again others (before ++ wish ∷ []) more (read + 1 + 1) words (omega arith) e.2 in
    (rest.0, rw (first, second, rest.1, append_assoc before (wish ∷ []) others) refl)
wishes_again all before more read words few e = search (append-nil, word_again, number_in_octets, octets_again, append_assoc)

abbrev pub ReadsAs : (place : Place) → PlaceValue place → List (List ℕ) → List (List ℕ) → ℕ → Type 0
ReadsAs place value words rest read = (k : ℕ) × (at_place place (left_of words read) ≡ Ok (value, left_of rest k))

pub place_again : (place : Place) (value : PlaceValue place) (words rest : List (List ℕ)) (read : ℕ) → is_small place ≡ true → Spells place value words rest → ReadsAs place value words rest read
place_again (one place) value words rest read small h =
    let this : word_in place h.0 ≡ Some value = word_again place value h.0 small h.2 in
    (read + 1, rw (h.1, this) refl)
place_again (perhaps least greatest) value words rest read small h = elim h [
  | inl none ↦ (read, rw (none.0, none.1, none.2) refl)
  | inr some ↦
      let this : decimal_in least greatest (decimal some.0) ≡ Some some.0 = decimal_again least greatest some.0 (decimal some.0) small refl some.3 some.4 in
      (read + 1, rw (some.1, some.2, this) refl)
]
place_again rising set words rest read small h =
    let this : decimal_in 1 31 (decimal h.0) ≡ Some h.0 = decimal_fits 1 31 h.0 (decimal h.0) (omega (arith, h.5.1)) refl h.5.0 h.5.1 in
    let others = streams_again h.1 (with_stream 0 h.0) (h.0 + 1) (read + 1) h.5.2 in
    (others.0, rw (h.2, h.3, h.4, this, others.1) refl)
place_again (wishes most) value words rest read small h =
    let all = wishes_again value [] 31 read words h.0 h.2 in
    (all.0, rw h.3 (wishes_fit most value (left_of words read) (left_of [] all.0) all.1 h.1))

-- ---- what is read is spelled so

abbrev done : {A : Type 0} → A → Result A LineFault
done x = Ok x

-- one word was read
record OneRead {X : Type 0} (f : List ℕ → Option X) (words : List (List ℕ)) (read : ℕ) (value : X) (left : Left) : Type 0 where
  pub word : List ℕ
  pub fits : f word ≡ Some value
  pub split : words ≡ word ∷ left.words
  pub count : left.read ≡ read + 1

taken_is : {X : Type 0} (f : List ℕ → Option X) (word : List ℕ) (words : List (List ℕ)) (read : ℕ) (found : Option X) (value : X) (left : Left) → f word ≡ found
    → taken read words found ≡ Ok (value, left) → OneRead f (word ∷ words) read value left
taken_is f word words read found value left is e = grind (arith, ok_is)

one_read : {X : Type 0} (f : List ℕ → Option X) (words : List (List ℕ)) (read : ℕ) (value : X) (left : Left) → next_of f read words ≡ Ok (value, left) → OneRead f words read value left
one_read f words read value left e = grind (arith, taken_is)

split_cond : {X : Type 0} (b : Bool) (x y z : Option X) → cond b x y ≡ z → ((b ≡ true) × (x ≡ z)) ⊎ ((b ≡ false) × (y ≡ z))
split_cond b x y z e = grind arith

pub some_is : {A : Type 0} (x y : A) → Some x ≡ Some y → x ≡ y
some_is x y e = cc

framing_spelled : (word : List ℕ) (n : ℕ) → framing_in word ≡ Some n → SpellsWord framing_word n word
unfolding framing_in
framing_spelled word n e = grind (arith, split_cond, bytes_eq, codes, cond, some_is, bytes_eq-Decides)

time_spelled : (greatest : ℕ) (word : List ℕ) (t : Option ℕ) → time_in greatest word ≡ Some t → SpellsWord (time_up_to greatest) t word
unfolding time_in
time_spelled greatest word t e = grind (arith, split_cond, bytes_eq, codes, timed, some_is, bytes_eq-Decides, decimal_is, decimal_range)

octets_spelled : (most : ℕ) (word octets : List ℕ) → octets_in most word ≡ Some octets → SpellsOctets most octets word
unfolding octets_in
octets_spelled most word octets e = grind (arith, split_cond, bytes_eq, codes, within, decode_of, some_is, bytes_eq-Decides, within_is)

exact_spelled : (count : ℕ) (word octets : List ℕ) → exact_in count word ≡ Some octets → (decode_of word ≡ Ok octets) × (length octets ≡ count)
unfolding exact_in
exact_spelled count word octets e = exactly_is count (decode_of word) octets e

numbered_is : (found : Option (List ℕ)) (n : ℕ) → numbered found ≡ Some n → (octets : List ℕ) × (found ≡ Some octets) × (n ≡ sum_from 0 octets)
numbered_is found n e = grind (arith, some_is, sum_from)

number_spelled : (count : ℕ) (word : List ℕ) (n : ℕ) → number_in count word ≡ Some n → SpellsWord (number_in_octets count) n word
unfolding number_in
number_spelled count word n e =
    let is = numbered_is (exact_in count word) n e in
    let whole = exact_spelled count word is.0 is.1 in
    (is.0, whole.0, whole.1, is.2)

pub word_spelled : (place : WordPlace) (value : WordValue place) (word : List ℕ) → word_in place word ≡ Some value → SpellsWord place value word
word_spelled (between least greatest) n word e = let range = decimal_range least greatest n word e in (decimal_is least greatest n word e, range.0, range.1)
word_spelled framing_word n word e = framing_spelled word n e
word_spelled (time_up_to greatest) time word e = time_spelled greatest word time e
word_spelled (octets_up_to most) octets word e = octets_spelled most word octets e
word_spelled (octets_exactly count) octets word e = exact_spelled count word octets e
word_spelled (number_in_octets count) n word e = number_spelled count word n e
word_spelled (list_up_to most) octets word e = let is = list_is most word octets e in (octets_spelled most word octets is.0, is.1)

-- a decimal at the front
prefix : (word : List ℕ) (n : ℕ) (rest : List (List ℕ)) → word ≡ decimal n → word ∷ rest ≡ decimal n ∷ rest
prefix word n rest e = ap (λ (w : List ℕ). w ∷ rest) e

abbrev head_of : List (List ℕ) → List ℕ
head_of [] = []
head_of (word ∷ words) = word

streams_back : (words : List (List ℕ)) (set least read last : ℕ) (left : Left) → streams_of set least read words ≡ Ok (last, left)
    → (others : List ℕ) × Rising least others × (words ≡ map decimal others) × (with_streams set others ≡ last) × (left.words ≡ [])
unfolding streams_of
streams_back [] set least read last left e = grind (arith, ok_is)
streams_back (word ∷ words) set least read last left e =
    let t = bind_ok (taken read words (decimal_in least 31 word)) (λ n. streams_of (with_stream set n.0) (n.0 + 1) (read + 1) words) (last, left) e in
    let one = taken_is (decimal_in least 31) word words read (decimal_in least 31 word) t.0.0 t.0.1 refl t.1 in
    let n = t.0.0 in
    let same : word ≡ one.word = ap (λ (ws : List (List ℕ)). head_of ws) one.split in
    let fits : decimal_in least 31 word ≡ Some n = ap (decimal_in least 31) same ∙ one.fits in
    let rest = streams_back words (with_stream set n) (n + 1) (read + 1) last left t.2 in
    let range = decimal_range least 31 n word fits in
    (n ∷ rest.0, (range.0, range.1, rest.1), prefix word n words (decimal_is least 31 n word fits) ∙ ap (λ (ws : List (List ℕ)). decimal n ∷ ws) rest.2, rest.3, rest.4)

rising_spelled : (words : List (List ℕ)) (read : ℕ) (set : ℕ) (left : Left) → rising_of (left_of words read) ≡ Ok (set, left) → Spells rising set words left.words
rising_spelled words read set left e =
    grind (arith, bind_ok, next_of, with_stream, one, one_read, streams_back, decimal_range, map, decimal, prefix, decimal_is)

perhaps_spelled : (least greatest : ℕ) (words : List (List ℕ)) (read : ℕ) (value : Option ℕ) (left : Left)
    → perhaps_of least greatest read words ≡ Ok (value, left) → Spells (perhaps least greatest) value words left.words
perhaps_spelled least greatest words read value left e =
    grind (arith, ok_is, bind_ok, taken, one, one_read, decimal_range, decimal, prefix, decimal_is)

-- the pairs behind those before
record WishesRead (before all : List Wish) (more : ℕ) (words : List (List ℕ)) (left : Left) : Type 0 where
  pub others : List Wish
  pub few : length others ≤ more
  pub together : all ≡ before ++ others
  pub all_spelled : left.words ≡ [] → SpellsWishes others words

abbrev wishes_are : List Wish → List (List ℕ) → ℕ → Result (List Wish × Left) LineFault
wishes_are before words read = Ok (before, left_of words read)

none_more : (before all : List Wish) (more read : ℕ) (words : List (List ℕ)) (left : Left) → wishes_are before words read ≡ done (all, left) → WishesRead before all more words left
none_more before all more read words left e = grind (arith, ok_is, append-nil)

wishes_back : (more : ℕ) (before : List Wish) (read : ℕ) (words : List (List ℕ)) (all : List Wish) (left : Left)
    → wishes_of before more read words ≡ Ok (all, left) → WishesRead before all more words left
unfolding wishes_of
wishes_back zero before read words all left e = none_more before all zero read words left e
wishes_back (suc more) before read [] all left e = none_more before all (suc more) read [] left e
wishes_back (suc more) before read (word ∷ words) all left e =
    let t = bind_ok (wish_of (left_of (word ∷ words) read)) (λ wish. wishes_of (before ++ wish.0 ∷ []) more wish.1.read wish.1.words) (all, left) e in
    let a = bind_ok (next_of (number_in 4) read (word ∷ words))
    (λ bits. next_of (octets_in 255) bits.1.read bits.1.words >>= λ metadata. Ok (record { bis_sync = bits.0; metadata = metadata.0 }, metadata.1)) t.0 t.1 in
    let b = bind_ok (next_of (octets_in 255) a.0.1.read a.0.1.words) (λ metadata. Ok (record { bis_sync = a.0.0; metadata = metadata.0 }, metadata.1)) t.0 a.2 in
    let bits = one_read (number_in 4) (word ∷ words) read a.0.0 a.0.1 a.1 in
    let metadata = one_read (octets_in 255) a.0.1.words a.0.1.read b.0.0 b.0.1 b.1 in
    let wish : Wish = record { bis_sync = a.0.0; metadata = b.0.0 } in
    let pair : Wish × Left = (wish, b.0.1) in
    let both : pair ≡ t.0 = ok_is pair t.0 b.2 in
    let rest = wishes_back more (before ++ wish ∷ []) b.0.1.read b.0.1.words all left (ap (λ (p : Wish × Left). wishes_of (before ++ p.0 ∷ []) more p.1.read p.1.words) both ∙ t.2) in
    let split : word ∷ words ≡ bits.word ∷ metadata.word ∷ b.0.1.words = bits.split ∙ ap (λ (ws : List (List ℕ)). bits.word ∷ ws) metadata.split in
    record {
      others = wish ∷ rest.others;
      few = omega (arith, rest.few);
      together = rest.together ∙ append_assoc before (wish ∷ []) rest.others;
      all_spelled = λ none. subst (λ (ws : List (List ℕ)). SpellsWishes (wish ∷ rest.others) ws) (sym split)
          (word_spelled (number_in_octets 4) a.0.0 bits.word bits.fits, octets_spelled 255 metadata.word b.0.0 metadata.fits, rest.all_spelled none);
    }

pub bounded_is : (most : ℕ) (found all : List Wish × Left) → bounded most found ≡ Ok all → (wishes_octets found.0 ≤ most) × (found ≡ all)
bounded_is most found all e = grind (arith, ok_is, nat_le, wishes_octets, leb-true)

wishes_spelled : (most : ℕ) (words : List (List ℕ)) (read : ℕ) (all : List Wish) (left : Left) → all_wishes_of most (left_of words read) ≡ Ok (all, left) → left.words ≡ []
    → Spells (wishes most) all words left.words
wishes_spelled most words read all left e none =
    let t = bind_ok (wishes_of [] 31 read words) (bounded most) (all, left) e in
    let both = bounded_is most t.0 (all, left) t.2 in
    let found = wishes_back 31 [] read words all left (t.1 ∙ ap done both.1) in
    let few : length all ≤ 31 = rw found.together found.few in
    let short : wishes_octets all ≤ most = subst (λ (p : List Wish × Left). wishes_octets p.0 ≤ most) both.1 both.0 in
    (few, short, rw found.together (found.all_spelled none), none)

-- a place that takes all words that it can must be the last
abbrev pub IsLast : Place → List (List ℕ) → Type 0
IsLast (wishes most) words = words ≡ []
IsLast _ words = Unit {0}

pub place_spelled : (place : Place) (words : List (List ℕ)) (read : ℕ) (value : PlaceValue place) (left : Left) → at_place place (left_of words read) ≡ Ok (value, left) → IsLast place left.words
    → Spells place value words left.words
place_spelled (one place) words read value left e last =
    let it = one_read (word_in place) words read value left e in
    (it.word, it.split, word_spelled place value it.word it.fits)
place_spelled (perhaps least greatest) words read value left e last = perhaps_spelled least greatest words read value left e
place_spelled rising words read value left e last = rising_spelled words read value left e
place_spelled (wishes most) words read value left e last = wishes_spelled most words read value left e last
