-- Numbers that are put digit by digit, and numbers whose digits stand in front of a room.
use Rattle.scenario_words.proofs.Prelude.{◌≡◌, ◌≤◌, ◌<◌, ℕ, ◌+◌, ◌/◌, ◌%◌, List, [], ◌∷◌, ◌++◌, length, take, drop, ap, sym, ◌∙◌, arith, decimal, decimal_digit, decimal_step, put_mid}
use lib.Seq.{take-append-add, take-append-le, length-take-le}

pub one_digit : (n : ℕ) → n < 10 → decimal n ≡ (48 + n % 10) ∷ []
one_digit n small =
    let last : n ≡ n % 10 = omega arith in
    decimal_digit n small ∙ ap (λ k. (48 + k) ∷ []) last

pub two_digits : (n : ℕ) → 10 ≤ n → n < 100 → decimal n ≡ (48 + n / 10 % 10) ∷ (48 + n % 10) ∷ []
two_digits n large small = decimal_step n large (omega arith) ∙ ap (λ l. l ++ (48 + n % 10) ∷ []) (one_digit (n / 10) (omega arith))

pub three_digits : (n : ℕ) → 100 ≤ n → n < 1000 → decimal n ≡ (48 + n / 100) ∷ (48 + n / 10 % 10) ∷ (48 + n % 10) ∷ []
three_digits n large small =
    let first : n / 10 / 10 % 10 ≡ n / 100 = omega arith in
    decimal_step n (omega arith) (omega arith) ∙ ap (λ l. l ++ (48 + n % 10) ∷ []) (two_digits (n / 10) (omega arith) (omega arith))
    ∙ ap (λ k. (48 + k) ∷ (48 + n / 10 % 10) ∷ (48 + n % 10) ∷ []) first

-- the whole room of a number was written behind octets, and so many of its digits count
pub number_put : (room digits : List ℕ) (count n k : ℕ) → count ≤ length room → n ≤ length digits
    → take (count + n) (put_mid count k room digits) ≡ take count room ++ take n digits
number_put room digits count n k within few =
    let rest : List ℕ = digits ++ drop k (drop count room) in
    ap (λ (m : ℕ). take (m + n) (take count room ++ rest)) (sym (length-take-le count room within))
    ∙ take-append-add (take count room) rest n
    ∙ ap (λ (l : List ℕ). take count room ++ l) (take-append-le n digits (drop k (drop count room)) few)
