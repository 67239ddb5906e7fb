-- Bits of numbers: a number that isn't 0 has one, and two numbers share one where their `and` isn't 0.
use Rattle.pacs_records.proofs.Prelude.{◌≡◌, ◌↔◌, ℕ, zero, suc, ◌/◌, ◌%◌, ◌<◌, ◌≤◌, Bool, true, false, bit_and, eqb, refl, sym, ap, ◌∙◌, arith, inl, inr, not, bit_at, cases_lt, eqb-false, ne_eqb, Has, ShareBit}
use Rattle.std.specs.Int.RustNames.{count_ones}
use Rattle.std.proofs.lemmas.Nat.{zero_from_ones}
use Rattle.std.proofs.lemmas.Nat.Bits.{bit_at_lowest, bit_at-suc, bit_at-zero, bit_at_and, bit_at-lt}

pub one_bit : (n : ℕ) → (n ≡ 0 → ⊥) → 1 ≤ count_ones n
one_bit n some = grind (arith, cases_lt, zero_from_ones)

some_bit_within : (fuel n : ℕ) → n ≤ fuel → 0 < n → (k : ℕ) × Has n k
some_bit_within zero n le some = absurd (omega arith)
some_bit_within (suc fuel) n le some =
    elim (cases_lt (n % 2) 1) [
      | inl even ↦
          let b = some_bit_within fuel (n / 2) (omega (arith, even)) (omega (arith, even)) in
          (suc b.0, bit_at-suc n b.0 ∙ b.1)
      | inr odd ↦ (0, bit_at_lowest n ∙ omega (arith, odd))
    ]

pub some_bit : (n : ℕ) → 0 < n → (k : ℕ) × Has n k
some_bit n some = some_bit_within n n (omega arith) some

both_ones : (x y : ℕ) → x < 2 → y < 2 → Rattle.std.proofs.Common.min x y ≡ 1 → (x ≡ 1) × (y ≡ 1)
both_ones x y a b e = (omega (arith, e), omega (arith, e))

pub share : (a b : ℕ) → 0 < bit_and a b → ShareBit a b
share a b some =
    let k = some_bit (bit_and a b) some in
    let both = both_ones (bit_at a k.0) (bit_at b k.0) (bit_at-lt a k.0) (bit_at-lt b k.0) (sym (bit_at_and a b k.0) ∙ k.1) in
    (k.0, both.0, both.1)

pub shared : (a b : ℕ) → ShareBit a b → bit_and a b ≡ 0 → ⊥
shared a b (k, x, y) none = grind (arith, bit_at-zero k, (ap (λ (n : ℕ). bit_at n k) none ∙ bit_at-zero k), bit_at_and a b k)

-- the test whether two numbers share a bit
pub share_means : (a b : ℕ) → (not (eqb (bit_and a b) 0) ≡ true) ↔ ShareBit a b
share_means a b = (λ h. share a b (above h), λ s. off s)
  where
    by_test : (t : Bool) → eqb (bit_and a b) 0 ≡ t → not t ≡ true → 0 < bit_and a b
    by_test true e h = absurd cc
    by_test false e h = positive (bit_and a b) (eqb-false _ _ e)
      where
        positive : (n : ℕ) → (n ≡ 0 → ⊥) → 0 < n
        positive zero other = absurd (other refl)
        positive (suc n) other = omega arith

    above : not (eqb (bit_and a b) 0) ≡ true → 0 < bit_and a b
    above h = by_test (eqb (bit_and a b) 0) refl h

    off : ShareBit a b → not (eqb (bit_and a b) 0) ≡ true
    off s = ap not (ne_eqb (bit_and a b) 0 (shared a b s))
