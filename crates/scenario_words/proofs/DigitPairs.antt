-- Pairs of digits that are tested first, and then read one by one.
use Rattle.scenario_words.proofs.Prelude.{◌≡◌, ◌≤◌, ◌<◌, ◌+◌, ◌*◌, ◌/◌, ◌%◌, ◌&&◌, ℕ, suc, zero, Bool, true, false, List, [], ◌∷◌, Option, Result, Ok, Err, take, drop, length, slice_index, slice_set, get_or, refl, sym, ap, ◌∙◌, arith, drop-drop, take_more, take_all, list_all-append, AllPass-from_list_all, list_all-from_AllPass, IsErr, is_some, list_all, unwrap_or, decode_of, digit_or_error, hex_digit_value, is_hex_digit, pair_value, FromHexError, decode_of-even, decode_of-ok, cons_byte, prepend, decode_done, decode_pairs-ok_pair, decode_step, drop-pair}
use Rattle.std.specs.Simd.{first_chunks}
use Rattle.hex.specs.Hex.{decode_pairs}

and_true : (a b : Bool) → (a && b) ≡ (a && (b && true))
and_true a b = grind arith

pub one_digit_more : (word : List ℕ) (i : ℕ) (are is : Bool) → i < length word → is ≡ is_hex_digit (slice_index word i)
    → are ≡ list_all is_hex_digit (take i word) → (are && is) ≡ list_all is_hex_digit (take (i + 1) word)
one_digit_more word i are is within e before =
    let more = take_more word i 0 within in
    rw (more, list_all-append is_hex_digit (take i word) (slice_index word i ∷ []), ← before, ← e) (and_true are is)

pub all_digits : (word : List ℕ) (i : ℕ) (are : Bool) → length word ≤ i → are ≡ list_all is_hex_digit (take i word)
    → are ≡ list_all is_hex_digit word
all_digits word i are all before = before ∙ ap (list_all is_hex_digit) (take_all i word all)

-- ---- what the digits say

refuses : (word : List ℕ) (read : Result (List ℕ) FromHexError) → read ≡ decode_of word → list_all is_hex_digit word ≡ false → IsErr read
refuses word (Ok octets) e misfit =
    let all = list_all-from_AllPass is_hex_digit word (decode_of-ok word octets (sym e)).1 in
    absurd (cc (all, misfit))
refuses word (Err fault) e misfit = refl

pub refused : (word : List ℕ) → list_all is_hex_digit word ≡ false → IsErr (decode_of word)
refused word misfit = refuses word (decode_of word) refl misfit

-- the pairs of a text
chunk_at : (n count i : ℕ) (xs : List ℕ) → i < count → get_or (first_chunks n count xs) i [] ≡ take n (drop (i * n) xs)
chunk_at n zero i xs within = absurd (omega arith)
chunk_at n (suc count) zero xs within = let none : 0 * n ≡ 0 = omega arith in rw none refl
chunk_at n (suc count) (suc i) xs within =
    let place : n + i * n ≡ suc i * n = omega arith in
    chunk_at n count i (drop n xs) (omega arith) ∙ ap (take n) (drop-drop (i * n) n xs ∙ ap (λ k. drop k xs) place)

pair_at : (word : List ℕ) (pairs : List (List ℕ)) (i : ℕ) → pairs ≡ first_chunks 2 (length word / 2) word → i < length word / 2
    → get_or pairs i [] ≡ slice_index word (2 * i) ∷ slice_index word (2 * i + 1) ∷ []
pair_at word pairs i e within =
    let place : i * 2 ≡ 2 * i = omega arith in
    ap (λ (all : List (List ℕ)). get_or all i []) e ∙ chunk_at 2 (length word / 2) i word within
    ∙ ap (λ k. take 2 (drop k word)) place ∙ ap (take 2) (drop-pair word i (omega arith))

halves : (a b pair : ℕ) → a < 256 → b < 256 → pair ≡ a + b * 256 → (pair % 256 ≡ a) × (pair / 256 ≡ b)
halves a b pair low high e = (omega arith, omega arith)

-- the two octets of a pair, out of its number
pub octets_at : (word : List ℕ) (pairs : List (List ℕ)) (i pair : ℕ) → pairs ≡ first_chunks 2 (length word / 2) word → i < length word / 2
    → ((k : ℕ) → slice_index word k < 256) → pair ≡ slice_index (get_or pairs i []) 0 + slice_index (get_or pairs i []) 1 * 256
    → (pair % 256 ≡ slice_index word (2 * i)) × (pair / 256 ≡ slice_index word (2 * i + 1))
octets_at word pairs i pair e within small read =
    halves (slice_index word (2 * i)) (slice_index word (2 * i + 1)) pair (small (2 * i)) (small (2 * i + 1)) (rw (pair_at word pairs i e within) at read)

pub is_digit_at : (word : List ℕ) (k : ℕ) → list_all is_hex_digit word ≡ true → k < length word → is_hex_digit (slice_index word k) ≡ true
is_digit_at word k all within = AllPass-from_list_all is_hex_digit word all k 0 within

read_of : (o : Option ℕ) (c i : ℕ) → is_some o ≡ true → digit_or_error c i o ≡ Ok (unwrap_or o 0)
read_of o c i e = grind arith

pub pair_reads : (a b i : ℕ) → is_hex_digit a ≡ true → is_hex_digit b ≡ true
    → pair_value a b i ≡ Ok (unwrap_or (hex_digit_value a) 0 * 16 + unwrap_or (hex_digit_value b) 0)
pair_reads a b i first second = rw (read_of (hex_digit_value a) a i first, read_of (hex_digit_value b) b (i + 1) second) refl

pub one_pair_more : (word octets : List ℕ) (i octet : ℕ) → list_all is_hex_digit word ≡ true → 2 * i + 1 < length word → i < length octets
    → octet ≡ unwrap_or (hex_digit_value (slice_index word (2 * i))) 0 * 16 + unwrap_or (hex_digit_value (slice_index word (2 * i + 1))) 0
    → decode_pairs 0 word ≡ prepend (take i octets) (decode_pairs (2 * i) (drop (2 * i) word))
    → decode_pairs 0 word ≡ prepend (take (i + 1) (slice_set octets i octet)) (decode_pairs (2 * (i + 1)) (drop (2 * (i + 1)) word))
one_pair_more word octets i octet all more room e before = grind (arith, pair_reads, slice_index, is_digit_at, decode_step)

pub all_pairs : (word octets : List ℕ) (i : ℕ) → length word % 2 ≡ 0 → length octets ≤ i → length word ≤ 2 * i
    → decode_pairs 0 word ≡ prepend (take i octets) (decode_pairs (2 * i) (drop (2 * i) word)) → decode_of word ≡ Ok octets
all_pairs word octets i even all read before = decode_of-even word even ∙ decode_done word octets i all read before

-- ---- pairs of digits spell octets

byte_more : (octet i : ℕ) (rest : List ℕ) → ((octets : List ℕ) × (decode_pairs i rest ≡ Ok octets)) → (octets : List ℕ) × (cons_byte octet (decode_pairs i rest) ≡ Ok octets)
byte_more octet i rest read = (octet ∷ read.0, rw read.1 refl)

pub both_digits : (a b : Bool) → (a && b) ≡ true → (a ≡ true) × (b ≡ true)
both_digits a b e = grind arith

read_all : (i : ℕ) (word : List ℕ) → length word % 2 ≡ 0 → list_all is_hex_digit word ≡ true → (octets : List ℕ) × (decode_pairs i word ≡ Ok octets)
unfolding decode_pairs
read_all i [] even all = ([], refl)
read_all i (digit ∷ []) even all = absurd cc
read_all i (a ∷ b ∷ rest) even all =
    let first = both_digits (is_hex_digit a) (list_all is_hex_digit (b ∷ rest)) all in
    let second = both_digits (is_hex_digit b) (list_all is_hex_digit rest) first.1 in
    let read = byte_more _ (i + 2) rest (read_all (i + 2) rest (omega (arith, even)) second.1) in
    (read.0, decode_pairs-ok_pair i a b _ rest (pair_reads a b i first.0 second.0) ∙ read.1)

pub spelled : (word : List ℕ) → length word % 2 ≡ 0 → list_all is_hex_digit word ≡ true → (octets : List ℕ) × (decode_of word ≡ Ok octets)
spelled word even all = let read = read_all 0 word even all in (read.0, decode_of-even word even ∙ read.1)
