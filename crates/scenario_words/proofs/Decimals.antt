-- A word of digits without a leading zero is the decimal of its value, and no other word is a decimal.
use Rattle.scenario_words.proofs.Prelude.{◌≡◌, ◌≤◌, ◌<◌, ℕ, ◌+◌, ◌-◌, ◌*◌, ◌^◌, List, length, get_or, take, ap, sym, ◌∙◌, arith, decimal, IsInRange, digits_value, decimal_nonempty, decimal_digit, first_decimal, digits_decimal, digits_value-decimal, decimal-digits_value, take_all, cases_lt}
use Rattle.std.proofs.lemmas.Str.{digit_value_digit}
use Rattle.std.proofs.lemmas.Str.Parse.{IsNumeralModel, numerals_by_value, tells_by_index, digits_value-take-le}
use Rattle.std.proofs.lemmas.Int.Digits.{digits_value_more}

abbrev pub AreDigits : List ℕ → Type 0
AreDigits word = (i : ℕ) → i < length word → IsInRange 48 57 (get_or word i 0)

pub own : IsNumeralModel AreDigits (digits_value 10)
own = numerals_by_value AreDigits tells_by_index

pub no_decimal_is_empty : (word : List ℕ) (n : ℕ) → length word ≡ 0 → n < 2 ^ 64 → word ≡ decimal n → ⊥
no_decimal_is_empty word n none small e = omega (arith, decimal_nonempty n small, ap length e)

pub no_leading_zero : (word : List ℕ) (n : ℕ) → 1 < length word → get_or word 0 0 ≡ 48 → n < 2 ^ 64 → word ≡ decimal n → ⊥
no_leading_zero word n long first small e = grind (arith, length, decimal_digit, first_decimal, get_or, decimal)

pub more_value : (word : List ℕ) (i value : ℕ) → i < length word → value ≡ digits_value 10 (take i word) → IsInRange 48 57 (get_or word i 0)
    → value * 10 + (get_or word i 0 - 48) ≡ digits_value 10 (take (i + 1) word)
more_value word i value inside is digit = grind (arith, digits_value_more, digit_value_digit, get_or)

-- where the octet at i is no digit, or the number passes 64 bits, the word is no decimal
pub no_further : (word : List ℕ) (i value n : ℕ) → i < length word → value ≡ digits_value 10 (take i word)
    → ((48 ≤ get_or word i 0) × (get_or word i 0 ≤ 57) × (value * 10 + (get_or word i 0 - 48) < 2 ^ 64) → ⊥)
    → n < 2 ^ 64 → word ≡ decimal n → ⊥
no_further word i value n inside is fails small e =
    grind (arith, digits_decimal, own, digits_value, digits_value-decimal, digits_value-take-le, more_value)

pub is_decimal : (word : List ℕ) (i value : ℕ) → length word ≤ i → 0 < length word → ((1 < length word) × (get_or word 0 0 ≡ 48) → ⊥) → value < 2 ^ 64
    → value ≡ digits_value 10 (take i word) → ((k : ℕ) → k < i → IsInRange 48 57 (get_or word k 0)) → word ≡ decimal value
is_decimal word i value all some leading small is digits =
    let whole : value ≡ digits_value 10 word = is ∙ ap (λ (w : List ℕ). digits_value 10 w) (take_all i word all) in
    let canonical : decimal (digits_value 10 word) ≡ word =
    decimal-digits_value own word (λ k h. digits k (omega arith)) some (grind (arith, cases_lt, length)) (omega arith) in
    sym canonical ∙ ap decimal (sym whole)
