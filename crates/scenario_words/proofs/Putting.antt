-- A line that is put piece by piece: what was put so far is a prefix of it, and what is left is its rest.
use Rattle.scenario_words.proofs.Prelude.{◌≡◌, ◌<◌, ◌≤◌, ◌+◌, ◌*◌, ◌/◌, ◌%◌, ℕ, suc, List, [], ◌∷◌, ◌++◌, length, get_or, slice_index, map, take, drop, Result, refl, ap, sym, ◌∙◌, append_assoc, arith, decimal, OnErr, decimal_digit, take-append-drop, append-nil, encode_with-drop, encode_lower, lower_digits, APrefix, PutUpTo, space, drop-cons, take-put_mid, put_mid}
use Rattle.hex.specs.Hex.{encode_with}
use Rattle.scenario_words.specs.Joined.{behind}
use Rattle.scenario_words.specs.PrintedWords.{spelled}
use Rattle.scenario_words.specs.declared.printed_word.Word.{Word}

-- the next piece was put but for what waits of it
pub put_more : (old now new line left piece waits rest : List ℕ) → PutUpTo old now line left → left ≡ piece ++ rest → PutUpTo now new piece waits
    → PutUpTo old new line (waits ++ rest)
put_more old now new line left piece waits rest so_far split more = grind (arith, append_assoc)

-- what waits, with a piece of what is behind it
pub regrouped : (waits left piece rest : List ℕ) → left ≡ piece ++ rest → waits ++ left ≡ (waits ++ piece) ++ rest
regrouped waits left piece rest split = ap (λ (l : List ℕ). waits ++ l) split ∙ sym (append_assoc waits piece rest)

-- the next piece was put in part
pub prefix_of : (old now new line left piece rest : List ℕ) → PutUpTo old now line left → left ≡ piece ++ rest → APrefix now new piece → APrefix old new line
prefix_of old now new line left piece rest so_far split part = grind (arith, append_assoc)

-- nothing was put
begun : (old line : List ℕ) → PutUpTo old old line line
begun old line = record { prefix = []; whole = refl; put = sym (append-nil old) }

-- a prefix of a piece is one of the piece with its rest
pub prefix_of_more : (old new waits piece rest : List ℕ) → APrefix old new (waits ++ piece) → APrefix old new (waits ++ (piece ++ rest))
prefix_of_more old new waits piece rest part =
    prefix_of old old new (waits ++ (piece ++ rest)) (waits ++ (piece ++ rest)) (waits ++ piece) rest (begun old (waits ++ (piece ++ rest)))
    (regrouped waits (piece ++ rest) piece rest refl) part

pub prefix_of_first : (old new waits first rest : List ℕ) → waits ≡ [] → APrefix old new (waits ++ first) → APrefix old new (first ++ rest)
prefix_of_first old new waits first rest none part = prefix_of_more old new [] first rest (rw none at part)

-- the digits of one octet more were put, as a pair
pub pair_put : (octets digits put : List ℕ) (i k pair : ℕ) → i < length octets → 2 * i + 2 ≤ length digits → pair < 65536 → put ≡ pair % 256 ∷ pair / 256 % 256 ∷ []
    → pair % 256 ≡ slice_index lower_digits (slice_index octets i / 16) → pair / 256 ≡ slice_index lower_digits (slice_index octets i % 16)
    → take (2 * i) digits ++ encode_lower (drop i octets) ≡ encode_lower octets
    → take (2 * (i + 1)) (put_mid (2 * i) k digits put) ++ encode_lower (drop (i + 1) octets) ≡ encode_lower octets
pair_put octets digits put i k pair inside fits small is first second so_far =
    grind (arith, length, take-put_mid, append_assoc, encode_with-drop, lower_digits)

pub encode_append : (t xs ys : List ℕ) → encode_with t (xs ++ ys) ≡ encode_with t xs ++ encode_with t ys
unfolding encode_with
encode_append t [] ys = refl
encode_append t (x ∷ xs) ys = rw (encode_append t xs ys) refl

pub encode_split : (n : ℕ) (octets prefix back : List ℕ) → prefix ≡ take n octets → back ≡ drop n octets → encode_lower octets ≡ encode_lower prefix ++ encode_lower back
encode_split n octets prefix back is rest =
    rw (is, rest) (ap encode_lower (sym (take-append-drop n octets)) ∙ encode_append lower_digits (take n octets) (drop n octets))

pub digits_put : (old new line waits rest : List ℕ) → length rest ≡ 0 → PutUpTo old new line (waits ++ encode_lower rest) → PutUpTo old new line waits
unfolding encode_with
digits_put old new line waits [] none all = rw (append-nil waits) at all
digits_put old new line waits (octet ∷ rest) none all = absurd (omega arith)

-- the next word of a line, behind its space
next_word : (words : List Word) (i : ℕ) (none : Word) → i < length words
    → behind (map spelled (drop i words)) ≡ (space ∷ []) ++ (spelled (get_or words i none) ++ behind (map spelled (drop (suc i) words)))
next_word words i none inside = rw (drop-cons words i none inside) refl

-- the space before a word was put
pub space_put : (old now new line waits waiting : List ℕ) (words : List Word) (i : ℕ) (none : Word) → i < length words
    → PutUpTo old now line (waits ++ behind (map spelled (drop i words))) → PutUpTo now new (waits ++ space ∷ []) waiting
    → PutUpTo old new line (waiting ++ (spelled (get_or words i none) ++ behind (map spelled (drop (suc i) words))))
space_put old now new line waits waiting words i none inside so_far more =
    put_more old now new line _ (waits ++ space ∷ []) waiting _ so_far (regrouped waits _ (space ∷ []) _ (next_word words i none inside)) more

pub word_put : (old now new line waits waiting : List ℕ) (words : List Word) (i : ℕ) (none : Word)
    → PutUpTo old now line (waits ++ (spelled (get_or words i none) ++ behind (map spelled (drop (suc i) words))))
    → PutUpTo now new (waits ++ spelled (get_or words i none)) waiting → PutUpTo old new line (waiting ++ behind (map spelled (drop (i + 1) words)))
word_put old now new line waits waiting words i none so_far more =
    let next : i + 1 ≡ suc i = omega arith in
    rw next (put_more old now new line _ (waits ++ spelled (get_or words i none)) waiting _ so_far (regrouped waits _ (spelled (get_or words i none)) _ refl) more)

pub word_prefix : (old now new line waits : List ℕ) (words : List Word) (i : ℕ) (none : Word)
    → PutUpTo old now line (waits ++ (spelled (get_or words i none) ++ behind (map spelled (drop (suc i) words))))
    → APrefix now new (waits ++ spelled (get_or words i none)) → APrefix old new line
word_prefix old now new line waits words i none so_far part =
    prefix_of old now new line _ (waits ++ spelled (get_or words i none)) _ so_far (regrouped waits _ (spelled (get_or words i none)) _ refl) part

-- a number below 10 is one digit
pub digit_put : (old new waits waiting : List ℕ) (number : ℕ) → number < 10 → PutUpTo old new (waits ++ (48 + number) ∷ []) waiting
    → PutUpTo old new (waits ++ decimal number) waiting
digit_put old new waits waiting number small put = rw (decimal_digit number small) put

pub on_err : {A E : Type 0} (r : Result A E) (P : Type 0) → P → OnErr r P
on_err r x2 p = grind arith
