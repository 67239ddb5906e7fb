-- A word of exactly so many octets, whose end is looked for at its place alone, and the number in such octets.
use Rattle.scenario_words.proofs.Prelude.{◌≡◌, ◌<◌, ◌+◌, ◌-◌, ◌*◌, ◌^◌, ℕ, true, nat_eq, List, [], ◌∷◌, length, get_or, take, drop, Option, None, Some, Ok, Err, refl, sym, ap, arith, eq-eqb, add-one, take_rest, Bor, list_all, list_all-from_AllPass, AllPass-from_list_all, is_hex_digit, decode_of, decode_of-ok, sum_from, LineFault, BadLine, ok_is, Left, next, next_of, taken, words_after, words_of, option_map, err_is}
use Rattle.std.proofs.lemmas.List.{get_or-take, length-take-le}
use Rattle.scenario_words.specs.Reading.{exact_in, number_in}
use Rattle.scenario_words.proofs.LastWord.{digits_one, no_space_at}
use Rattle.scenario_words.proofs.OneWord.{exactly_is, number_below_width}
use Rattle.scenario_words.proofs.Splitting.{first_space}

-- no digit is a space
digit_before : (line : List ℕ) (end k : ℕ) → list_all is_hex_digit (take end line) ≡ true → end < length line → k < end → nat_eq (get_or line k 0) 32 ≡ true → ⊥
digit_before line end k all fits inside space =
    let at : is_hex_digit (get_or (take end line) k 0) ≡ true = AllPass-from_list_all is_hex_digit (take end line) all k 0 (let count : length (take end line) ≡ end = length-take-le end line (omega arith) in omega (arith, count)) in
    let digit : is_hex_digit (get_or line k 0) ≡ true = rw (get_or-take end line k 0 inside) at at in
    let no = no_space_at (get_or line k 0) (nat_eq (get_or line k 0) 32) refl digit in
    cc (no, space)

pub digits_before_space : (line : List ℕ) (end : ℕ) → end < length line → get_or line end 0 ≡ 32 → list_all is_hex_digit (take end line) ≡ true
    → words_of line ≡ take end line ∷ words_of (take (length line - (end + 1)) (drop (end + 1) line))
digits_before_space line end inside space all =
    rw (take_rest line (end + 1), add-one) (first_space line end inside (λ k low small. digit_before line end k all inside small) (eq-eqb (get_or line end 0) 32 space))

pub digits_alone : (line : List ℕ) → list_all is_hex_digit line ≡ true → words_of line ≡ line ∷ []
digits_alone line all = digits_one line all

exact_digits : (count : ℕ) (word octets : List ℕ) → exact_in count word ≡ Some octets → list_all is_hex_digit word ≡ true
unfolding exact_in
exact_digits count word octets e = list_all-from_AllPass is_hex_digit word (decode_of-ok word octets (exactly_is count (decode_of word) octets e).0).1

pub array_fits : (count read : ℕ) (old new : Option (Bor (List ℕ))) (line : Bor (List ℕ)) (word octets : List ℕ) → old ≡ Some line
    → (list_all is_hex_digit word ≡ true → words_of line.now ≡ word ∷ words_after new) → Some octets ≡ exact_in count word
    → next (exact_in count) (record { words = words_after old; read = read }) ≡ Ok (octets, record { words = words_after new; read = read + 1 })
array_fits count read old new line word octets is splits e = rw (is, splits (exact_digits count word octets (sym e)), ← e) refl

-- ---- the number in the octets of a word

taken_found : (read : ℕ) (words : List (List ℕ)) (new : Left) (octets : List ℕ) (found : Option (List ℕ)) → taken read words found ≡ Ok (octets, new) → Some octets ≡ found
taken_found read words new octets None e = absurd cc
taken_found read words new octets (Some other) e = grind (arith, ok_is)

taken_number : (n read : ℕ) (words : List (List ℕ)) (new : Left) (octets : List ℕ) (found : Option (List ℕ)) → n ≡ sum_from 0 octets
    → taken read words found ≡ Ok (octets, new) → taken read words (option_map (sum_from 0) found) ≡ Ok (n, new)
taken_number n read words new octets None is e = absurd cc
taken_number n read words new octets (Some other) is e = grind (arith, ok_is)

number_of_words : (count n read : ℕ) (words : List (List ℕ)) (new : Left) (octets : List ℕ) → n ≡ sum_from 0 octets → next_of (exact_in count) read words ≡ Ok (octets, new)
    → (next_of (number_in count) read words ≡ Ok (n, new)) × (n < 2 ^ (8 * count))
unfolding number_in
number_of_words count n read [] new octets is e = absurd (let no : next_of (exact_in count) read [] ≡ Ok (octets, new) = e in cc)
number_of_words count n read (word ∷ words) new octets is e =
    (taken_number n read words new octets (exact_in count word) is e, number_below_width count n word octets (taken_found read words new octets (exact_in count word) e) is)

pub number_read : (count n : ℕ) (old new : Left) (octets : List ℕ) → n ≡ sum_from 0 octets → next (exact_in count) old ≡ Ok (octets, new) → next (number_in count) old ≡ Ok (n, new)
number_read count n old new octets is e = (number_of_words count n old.read old.words new octets is e).0

pub number_small : (count n : ℕ) (old new : Left) (octets : List ℕ) → n ≡ sum_from 0 octets → next (exact_in count) old ≡ Ok (octets, new) → n < 2 ^ (8 * count)
number_small count n old new octets is e = (number_of_words count n old.read old.words new octets is e).1

taken_fault : (read : ℕ) (words : List (List ℕ)) (fault : LineFault) (found : Option (List ℕ)) → taken read words found ≡ Err fault → taken read words (option_map (sum_from 0) found) ≡ Err fault
taken_fault read words fault None e = ap (λ x. Err x) (err_is {A = List ℕ × Left} (BadLine read) fault e)
taken_fault read words fault (Some octets) e = absurd cc

fault_of_words : (count read : ℕ) (words : List (List ℕ)) (fault : LineFault) → next_of (exact_in count) read words ≡ Err fault → next_of (number_in count) read words ≡ Err fault
unfolding number_in
fault_of_words count read [] fault e = ap (λ x. Err x) (err_is {A = List ℕ × Left} (BadLine read) fault e)
fault_of_words count read (word ∷ words) fault e = taken_fault read words fault (exact_in count word) e

pub number_fails : (count : ℕ) (old : Left) (fault : LineFault) → next (exact_in count) old ≡ Err fault → next (number_in count) old ≡ Err fault
number_fails count old fault e = fault_of_words count old.read old.words fault e
