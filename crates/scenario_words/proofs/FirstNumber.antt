-- A line whose first word is a dash, or a few digits without a leading zero, which are the decimal of their value.
use Rattle.scenario_words.proofs.Prelude.{◌≡◌, ◌≤◌, ◌<◌, ◌+◌, ◌-◌, ◌*◌, ◌^◌, ℕ, true, nat_eq, List, ◌∷◌, [], Option, Some, Ok, length, get_or, take, drop, refl, ap, sym, ◌∙◌, eqb-true, eq-eqb, arith, decimal, Bor, IsInRange, digits_value, take_rest, take_all, add-one, next, words_after, words_of}
use Rattle.std.proofs.Math.Nat.{pow-suc, pow-le-pow_right}
use Rattle.std.proofs.lemmas.List.{length-take-le, get_or-take}
use Rattle.scenario_words.proofs.Decimals.{is_decimal}
use Rattle.scenario_words.proofs.Splitting.{no_space, first_space}
use Rattle.scenario_words.proofs.OneWord.{decimal_fits}
use Rattle.scenario_words.specs.Reading.{decimal_in}

-- a space stands behind a dash
pub dash_before_space : (line : List ℕ) → 2 ≤ length line → get_or line 0 0 ≡ 45 → get_or line 1 0 ≡ 32
    → words_of line ≡ (45 ∷ []) ∷ words_of (take (length line - 2) (drop 2 line))
dash_before_space [] some dash space = absurd (omega (arith, some))
dash_before_space (x ∷ []) some dash space = absurd (omega (arith, some))
dash_before_space (x ∷ y ∷ line) some dash space = rw (dash, space, take_rest (x ∷ y ∷ line) 2) refl

-- one digit more, of at most 18
pub more_small : (i value digit : ℕ) → value < 10 ^ i → IsInRange 48 57 digit → value * 10 + (digit - 48) < 10 ^ (i + 1)
more_small i value digit small is =
    let next : 10 ^ (i + 1) ≡ 10 ^ i * 10 = rw add-one (pow-suc 10 i) in
    omega (arith, next, is.0, is.1)

pub few_fit : (i value : ℕ) → i ≤ 18 → value < 10 ^ i → value < 2 ^ 64
few_fit i value few small =
    let some : 0 < 10 = omega arith in
    let most : 10 ^ i ≤ 10 ^ 18 = pow-le-pow_right some few in
    omega (arith, most)

-- the digits that a line begins with, and no zero stands before other digits
pub record Begins (line : List ℕ) (n end : ℕ) : Type 0 where
  pub some : 0 < end
  pub fit : end ≤ length line
  pub small : n < 2 ^ 64
  pub value : n ≡ digits_value 10 (take end line)
  pub digits : (k : ℕ) → k < end → IsInRange 48 57 (get_or line k 0)
  pub leading : (1 < end) × (get_or line 0 0 ≡ 48) → ⊥

no_space_in : (line : List ℕ) (n end : ℕ) → Begins line n end → (k : ℕ) → 0 ≤ k → k < end → nat_eq (get_or line k 0) 32 ≡ true → ⊥
no_space_in line n end begins k low inside space =
    let same : get_or line k 0 ≡ 32 = eqb-true (get_or line k 0) 32 space in
    let digit = begins.digits k inside in
    omega (arith, same, digit.0)

word_is : (line : List ℕ) (n end : ℕ) → Begins line n end → take end line ≡ decimal n
word_is line n end begins =
    let count : length (take end line) ≡ end = length-take-le end line begins.fit in
    let some : 0 < end = begins.some in
    is_decimal (take end line) end n (omega (arith, count)) (omega (arith, count))
    (λ zero. begins.leading (omega (arith, count, zero.0), sym (get_or-take end line 0 0 some) ∙ zero.1))
    begins.small (begins.value ∙ ap (λ (w : List ℕ). digits_value 10 w) (sym (take_all end (take end line) (omega (arith, count)))))
    (λ k inside. rw (get_or-take end line k 0 inside) (begins.digits k inside))

-- nothing stands behind the number
pub number_alone : (line : List ℕ) (n end : ℕ) → Begins line n end → end ≡ length line → words_of line ≡ decimal n ∷ []
number_alone line n end begins all =
    no_space line (λ k low inside space. no_space_in line n end begins k low (omega (arith, all, inside)) space)
    ∙ ap (λ (w : List ℕ). w ∷ []) (sym (take_all end line (omega (arith, all))) ∙ word_is line n end begins)

-- a space stands behind the number
pub number_before_space : (line : List ℕ) (n end : ℕ) → Begins line n end → end < length line → get_or line end 0 ≡ 32
    → words_of line ≡ decimal n ∷ words_of (take (length line - (end + 1)) (drop (end + 1) line))
number_before_space line n end begins inside space =
    rw (take_rest line (end + 1), add-one, ← word_is line n end begins)
    (first_space line end inside (no_space_in line n end begins) (eq-eqb (get_or line end 0) 32 space))

-- the number of the first word is read
pub number_fits : (least greatest n read : ℕ) (old new : Option (Bor (List ℕ))) (line : Bor (List ℕ)) → old ≡ Some line → words_of line.now ≡ decimal n ∷ words_after new
    → n < 2 ^ 64 → least ≤ n → n ≤ greatest
    → next (decimal_in least greatest) (record { words = words_after old; read = read }) ≡ Ok (n, record { words = words_after new; read = read + 1 })
number_fits least greatest n read old new line is word small low high = rw (is, word, decimal_fits least greatest n (decimal n) small refl low high) refl
