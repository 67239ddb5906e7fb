-- How many words fit: those before the word that a fault names, or all that were read. Upper crates may cite `misfit`,
-- `indices_stop`, `indices_all`, `pairs_stop` and `pairs_end`.
use Rattle.scenario_words.proofs.Prelude.{◌≡◌, ◌≤◌, ◌<◌, ℕ, zero, suc, ◌+◌, true, List, [], ◌∷◌, ◌++◌, length, take, Option, None, Some, Result, Ok, Err, refl, sym, ◌∙◌, arith, Wish, LineFault, BadLine, WordPlace, between, octets_up_to, number_in_octets, one, ◌>>=◌, bind_ok, ok_is, Left, next_of, taken, word_in, with_stream, wish_of, SpellsWord}
use Rattle.scenario_words.specs.Reading.{decimal_in, octets_in, number_in, streams_of, wishes_of}
use Rattle.scenario_words.specs.Fitting.{FitsWord, FitsIndices, FitsPairs}
use Rattle.scenario_words.proofs.Spelling.{is_small, word_again, word_spelled, some_is}

abbrev left_of : List (List ℕ) → ℕ → Left
left_of words read = record { words = words; read = read }

-- the first j of the words fit, and no more do
pub record Stops (fits : List (List ℕ) → Type 0) (words : List (List ℕ)) (j : ℕ) : Type 0 where
  pub within : j ≤ length words
  pub prefix : fits (take j words)
  pub no_more : j < length words → fits (take (suc j) words) → ⊥

abbrev done : {A : Type 0} → A → Result A LineFault
done x = Ok x

abbrev bad : (A : Type 0) → ℕ → Result A LineFault
bad A k = Err (BadLine k)

pub bad_is : (A : Type 0) (j k : ℕ) → bad A j ≡ bad A k → j ≡ k
bad_is A j k e = cc

abbrev pairs_are : List Wish → List (List ℕ) → ℕ → Result (List Wish × Left) LineFault
pairs_are before words read = Ok (before, left_of words read)

pub misfit : (place : WordPlace) (word : List ℕ) → is_small (one place) ≡ true → word_in place word ≡ None → FitsWord place word → ⊥
misfit place word small none fits = let some = word_again place fits.0 word small fits.1 in absurd (cc (none, some))

decimal_once : (least n m : ℕ) (word : List ℕ) → decimal_in least 31 word ≡ Some n → SpellsWord (between least 31) m word → m ≡ n
decimal_once least n m word e h = some_is m n (sym (word_again (between least 31) m word refl h) ∙ e)

-- ---- indices

pub indices_first : (least read k : ℕ) (word : List ℕ) (words : List (List ℕ)) (found : Option ℕ) → decimal_in least 31 word ≡ found
    → ((n : ℕ) → found ≡ Some n → (j : ℕ) × (k ≡ read + 1 + j) × Stops (FitsIndices (n + 1)) words j)
    → ((found ≡ None) → k ≡ read) → (j : ℕ) × (k ≡ read + j) × Stops (FitsIndices least) (word ∷ words) j
indices_first least read k word words None is rest none =
    (0, omega (arith, none refl), record { within = omega arith; prefix = tt; no_more = λ more fits. misfit (between least 31) word refl is (fits.0, fits.1) })
indices_first least read k word words (Some n) is rest none =
    let it = rest n refl in
    let spelled = word_spelled (between least 31) n word is in (
      suc it.0,
      omega (arith, it.1),
      grind (arith, take, decimal_once),
    )

taken_none : {X Y : Type 0} (read k : ℕ) (words : List (List ℕ)) (found : Option X) (f : X × Left → Result Y LineFault) → (taken read words found >>= f) ≡ Err (BadLine k) → found ≡ None → k ≡ read
taken_none read k words found f e none = grind arith

taken_some : {X Y : Type 0} (read : ℕ) (words : List (List ℕ)) (found : Option X) (f : X × Left → Result Y LineFault) (r : Result Y LineFault) (x : X)
    → (taken read words found >>= f) ≡ r → found ≡ Some x → f (x, left_of words (read + 1)) ≡ r
taken_some read words found f r x e some = grind (arith, some_is)

taken_found : {X : Type 0} (read : ℕ) (words : List (List ℕ)) (found : Option X) (x : X × Left) → taken read words found ≡ Ok x → found ≡ Some x.0
taken_found read words found x e = grind (arith, ok_is)

pub indices_stop : (words : List (List ℕ)) (set least read k : ℕ) → streams_of set least read words ≡ Err (BadLine k) → (j : ℕ) × (k ≡ read + j) × Stops (FitsIndices least) words j
unfolding streams_of
indices_stop [] set least read k e = absurd cc
indices_stop (word ∷ words) set least read k e =
    indices_first least read k word words (decimal_in least 31 word) refl
    (λ n some. indices_stop words (with_stream set n) (n + 1) (read + 1) k
    (taken_some read words (decimal_in least 31 word) (λ m. streams_of (with_stream set m.0) (m.0 + 1) (read + 1) words) (Err (BadLine k)) n e some))
    (taken_none read k words (decimal_in least 31 word) (λ m. streams_of (with_stream set m.0) (m.0 + 1) (read + 1) words) e)

-- all words that are left are indices
pub indices_all : (words : List (List ℕ)) (set least read last : ℕ) (left : Left) → streams_of set least read words ≡ Ok (last, left)
    → (left.read ≡ read + length words) × FitsIndices least words × (left.words ≡ [])
unfolding streams_of
indices_all [] set least read last left e = grind (arith, ok_is)
indices_all (word ∷ words) set least read last left e =
    let t = bind_ok (taken read words (decimal_in least 31 word)) (λ n. streams_of (with_stream set n.0) (n.0 + 1) (read + 1) words) (last, left) e in
    let n = t.0.0 in
    let fits : decimal_in least 31 word ≡ Some n = taken_found read words (decimal_in least 31 word) t.0 t.1 in
    let rest = indices_all words (with_stream set n) (n + 1) (read + 1) last left t.2 in
    (omega (arith, rest.0), (n, word_spelled (between least 31) n word fits, rest.1), rest.2)

-- ---- pairs

-- where reading a pair ends: both words fit, or the first that doesn't has the number k
data OnePair (read : ℕ) (word : List ℕ) (words : List (List ℕ)) : Result (Wish × Left) LineFault → Type 0 where
  first_misfits : (FitsWord (number_in_octets 4) word → ⊥) → OnePair read word words (Err (BadLine read))
  second_lacks : FitsWord (number_in_octets 4) word → words ≡ [] → OnePair read word words (Err (BadLine (read + 1)))
  second_misfits : (metadata : List ℕ) (rest : List (List ℕ)) → words ≡ metadata ∷ rest → FitsWord (number_in_octets 4) word → (FitsWord (octets_up_to 255) metadata → ⊥)
      → OnePair read word words (Err (BadLine (read + 1)))
  both_fit : (metadata : List ℕ) (rest : List (List ℕ)) (wish : Wish) → words ≡ metadata ∷ rest → FitsWord (number_in_octets 4) word → FitsWord (octets_up_to 255) metadata
      → OnePair read word words (Ok (wish, left_of rest (read + 1 + 1)))

second_word : (read : ℕ) (word : List ℕ) (words : List (List ℕ)) (metadata : List ℕ) (rest : List (List ℕ)) (n : ℕ) (found : Option (List ℕ)) → words ≡ metadata ∷ rest
    → octets_in 255 metadata ≡ found → FitsWord (number_in_octets 4) word
    → OnePair read word words (taken (read + 1) rest found >>= λ octets. Ok (record { bis_sync = n; metadata = octets.0 }, octets.1))
second_word read word words metadata rest n None is e fits = second_misfits metadata rest is fits (misfit (octets_up_to 255) metadata refl e)
second_word read word words metadata rest n (Some octets) is e fits =
    both_fit metadata rest (record { bis_sync = n; metadata = octets }) is fits (octets, word_spelled (octets_up_to 255) octets metadata e)

first_word : (read : ℕ) (word : List ℕ) (words : List (List ℕ)) (found : Option ℕ) → number_in 4 word ≡ found
    → OnePair read word words (taken read words found >>= λ bits. next_of (octets_in 255) bits.1.read bits.1.words >>= λ metadata. Ok (record { bis_sync = bits.0; metadata = metadata.0 }, metadata.1))
first_word read word words None e = first_misfits (misfit (number_in_octets 4) word refl e)
first_word read word [] (Some n) e = second_lacks (n, word_spelled (number_in_octets 4) n word e) refl
first_word read word (metadata ∷ rest) (Some n) e =
    second_word read word (metadata ∷ rest) metadata rest n (octets_in 255 metadata) refl refl (n, word_spelled (number_in_octets 4) n word e)

one_pair : (read : ℕ) (word : List ℕ) (words : List (List ℕ)) → OnePair read word words (wish_of (left_of (word ∷ words) read))
one_pair read word words = first_word read word words (number_in 4 word) refl

abbrev go_on : List Wish → ℕ → Wish × Left → Result (List Wish × Left) LineFault
go_on before more wish = wishes_of (before ++ wish.0 ∷ []) more wish.1.read wish.1.words

-- a fault has the number of the words that fit
pair_stops : (before : List Wish) (more read k : ℕ) (word : List ℕ) (words : List (List ℕ)) (r : Result (Wish × Left) LineFault)
    → OnePair read word words r → (r >>= go_on before more) ≡ Err (BadLine k)
    → ((metadata : List ℕ) (rest : List (List ℕ)) (wish : Wish) → words ≡ metadata ∷ rest → go_on before more (wish, left_of rest (read + 1 + 1)) ≡ Err (BadLine k)
    → (j : ℕ) × (k ≡ read + 1 + 1 + j) × Stops (FitsPairs more) rest j)
    → (j : ℕ) × (k ≡ read + j) × Stops (FitsPairs (suc more)) (word ∷ words) j
pair_stops before more read k word words r (first_misfits misfits) e rest = grind (arith, bad_is)
pair_stops before more read k word words r (second_lacks fits none) e rest = grind (arith, bad_is)
pair_stops before more read k word words r (second_misfits metadata others is fits misfits) e rest = grind (arith, bad_is)
pair_stops before more read k word words r (both_fit metadata others wish is fits also) e rest =
    let it = rest metadata others wish is e in
    rw is (suc (suc it.0), omega (arith, it.1), record { within = omega (arith, it.2.within); prefix = (fits, also, it.2.prefix); no_more = λ inside all. it.2.no_more (omega (arith, inside)) all.2 })

pub pairs_stop : (more : ℕ) (before : List Wish) (read k : ℕ) (words : List (List ℕ)) → wishes_of before more read words ≡ Err (BadLine k) → (j : ℕ) × (k ≡ read + j) × Stops (FitsPairs more) words j
unfolding wishes_of
pairs_stop zero before read k words e = absurd cc
pairs_stop (suc more) before read k [] e = absurd cc
pairs_stop (suc more) before read k (word ∷ words) e =
    pair_stops before more read k word words (wish_of (left_of (word ∷ words) read)) (one_pair read word words) e
    (λ metadata rest wish is next. pairs_stop more (before ++ wish ∷ []) (read + 1 + 1) k rest next)

-- and where all pairs are read, a word more is one too many
pair_ends : (before all : List Wish) (more read : ℕ) (word : List ℕ) (words : List (List ℕ)) (left : Left) (r : Result (Wish × Left) LineFault) → OnePair read word words r
    → (r >>= go_on before more) ≡ Ok (all, left)
    → ((metadata : List ℕ) (rest : List (List ℕ)) (wish : Wish) → words ≡ metadata ∷ rest → go_on before more (wish, left_of rest (read + 1 + 1)) ≡ Ok (all, left)
    → (j : ℕ) × (left.read ≡ read + 1 + 1 + j) × Stops (FitsPairs more) rest j)
    → (j : ℕ) × (left.read ≡ read + j) × Stops (FitsPairs (suc more)) (word ∷ words) j
pair_ends before all more read word words left r (first_misfits misfits) e rest = absurd cc
pair_ends before all more read word words left r (second_lacks fits none) e rest = absurd cc
pair_ends before all more read word words left r (second_misfits metadata others is fits misfits) e rest = absurd cc
pair_ends before all more read word words left r (both_fit metadata others wish is fits also) e rest =
    let it = rest metadata others wish is e in
    rw is (suc (suc it.0), omega (arith, it.1), record { within = omega (arith, it.2.within); prefix = (fits, also, it.2.prefix); no_more = λ inside all. it.2.no_more (omega (arith, inside)) all.2 })

left_now : (before all : List Wish) (words : List (List ℕ)) (read : ℕ) (left : Left) → pairs_are before words read ≡ done (all, left) → (left.read ≡ read + 0)
left_now before all words read left e = grind (arith, ok_is)

pub pairs_end : (more : ℕ) (before : List Wish) (read : ℕ) (words : List (List ℕ)) (all : List Wish) (left : Left) → wishes_of before more read words ≡ Ok (all, left)
    → (j : ℕ) × (left.read ≡ read + j) × Stops (FitsPairs more) words j
unfolding wishes_of
pairs_end zero before read [] all left e = (0, left_now before all [] read left e, record { within = omega arith; prefix = tt; no_more = λ inside fits. absurd (omega (arith, inside)) })
pairs_end zero before read (word ∷ words) all left e = (0, left_now before all (word ∷ words) read left e, record { within = omega arith; prefix = tt; no_more = λ inside fits. fits })
pairs_end (suc more) before read [] all left e = (0, left_now before all [] read left e, record { within = omega arith; prefix = tt; no_more = λ inside fits. absurd (omega (arith, inside)) })
pairs_end (suc more) before read (word ∷ words) all left e =
    pair_ends before all more read word words left (wish_of (left_of (word ∷ words) read)) (one_pair read word words) e
    (λ metadata rest wish is next. pairs_end more (before ++ wish ∷ []) (read + 1 + 1) rest all left next)
