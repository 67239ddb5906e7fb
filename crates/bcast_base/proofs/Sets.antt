-- One bit of a number, as the code tests, sets and clears it.
use Rattle.bcast_base.proofs.Prelude.{◌≡◌, ◌≢◌, ◌≤◌, ◌<◌, ◌↔◌, ℕ, ◌-◌, ◌*◌, ◌/◌, ◌%◌, ◌^◌, IsTrue, nat_eq, bit_and, bit_or, sym, ◌∙◌, inl, inr, arith, one_shl, or_lt, and_le_l, pow_below, w32, bit_at, eqb-true, eq-eqb}
use Rattle.std.proofs.lemmas.Nat.Bits.{shr_and_one, bit_at_set_same, bit_at_set_other, bit_at_clear_same, bit_at_clear_other, bit_at_above}
use Rattle.std.proofs.lemmas.Bool.Decides.{leb_tells}
use Rattle.bcast_base.specs.Bis.{Has}

pub has_test : (bits bis : ℕ) → IsTrue (nat_eq (bit_and (bits / 2 ^ (bis - 1)) 1) 1) ↔ Has bits bis
has_test bits bis = rw (shr_and_one bits (bis - 1)) (eqb-true (bit_at bits (bis - 1)) 1, eq-eqb (bit_at bits (bis - 1)) 1)

-- the set has bits below 31 alone
pub set_below : (bits bis : ℕ) → bits < 2 ^ 31 → 1 ≤ bis → bis ≤ 31 → bit_or bits (1 * 2 ^ (bis - 1) % 2 ^ 32) < 2 ^ 31
set_below bits bis small least greatest = rw (one_shl (bis - 1) 32 (omega arith)) (or_lt 31 bits (2 ^ (bis - 1)) small (pow_below (bis - 1) 31 (omega arith)))

pub set_same : (bits bis : ℕ) → 1 ≤ bis → bis ≤ 31 → Has (bit_or bits (1 * 2 ^ (bis - 1) % 2 ^ 32)) bis
set_same bits bis least greatest = bit_at_set_same w32 bits (bis - 1) (omega arith)

pub set_other : (bits bis b : ℕ) → 1 ≤ bis → bis ≤ 31 → 1 ≤ b → b ≢ bis → bit_at (bit_or bits (1 * 2 ^ (bis - 1) % 2 ^ 32)) (b - 1) ≡ bit_at bits (b - 1)
set_other bits bis b least greatest from other = bit_at_set_other w32 bits (bis - 1) (omega arith) (b - 1) (omega arith)

pub clear_same : (bits bis : ℕ) → 1 ≤ bis → bis ≤ 31 → bit_at (bit_and bits (2 ^ 32 - 1 - 1 * 2 ^ (bis - 1) % 2 ^ 32)) (bis - 1) ≡ 0
clear_same bits bis least greatest = bit_at_clear_same w32 bits (bis - 1) (omega arith)

-- clearing a bit leaves no new one
pub cleared_small : (bits bis : ℕ) → bits < 2 ^ 31 → bit_and bits (2 ^ 32 - 1 - 1 * 2 ^ (bis - 1) % 2 ^ 32) < 2 ^ 31
cleared_small bits bis small = omega (arith, and_le_l bits (2 ^ 32 - 1 - 1 * 2 ^ (bis - 1) % 2 ^ 32))

pub clear_other : (bits bis b : ℕ) → bits < 2 ^ 31 → 1 ≤ bis → bis ≤ 31 → 1 ≤ b → b ≢ bis → bit_at (bit_and bits (2 ^ 32 - 1 - 1 * 2 ^ (bis - 1) % 2 ^ 32)) (b - 1) ≡ bit_at bits (b - 1)
clear_other bits bis b small least greatest from other = elim (leb_tells (b - 1) 31) [
  | inl low ↦ bit_at_clear_other w32 bits (bis - 1) (omega arith) (b - 1) (omega (arith, low.1)) (omega arith)
  | inr high ↦ bit_at_above _ 31 (b - 1) (cleared_small bits bis small) (omega (arith, high.1)) ∙ sym (bit_at_above bits 31 (b - 1) small (omega (arith, high.1)))
]

zero_or_one : (n : ℕ) → n ≡ 0 → n ≡ 1 → ⊥
zero_or_one n zero one = omega arith

same_bit : (a b : ℕ) → a ≡ b → (a ≡ 1) ↔ (b ≡ 1)
same_bit a b same = (λ h. sym same ∙ h, λ h. same ∙ h)

-- the clauses of `with` and `without`: r is the index that was read, set the number before
pub with_has : (bits set r bis : ℕ) → bits ≡ set → r ≡ bis → 1 ≤ r → r ≤ 31 → Has (bit_or bits (1 * 2 ^ (r - 1) % 2 ^ 32)) bis
with_has bits set r bis is same least greatest = rw (← same) (set_same bits r least greatest)

pub with_others : (bits set r bis : ℕ) → bits ≡ set → r ≡ bis → 1 ≤ r → r ≤ 31 → (b : ℕ) → 1 ≤ b → b ≢ bis → Has (bit_or bits (1 * 2 ^ (r - 1) % 2 ^ 32)) b ↔ Has set b
with_others bits set r bis is same least greatest b from other = grind (arith, same_bit, set_other)

pub without_has : (bits set r bis : ℕ) → bits ≡ set → r ≡ bis → 1 ≤ r → r ≤ 31 → Has (bit_and bits (2 ^ 32 - 1 - 1 * 2 ^ (r - 1) % 2 ^ 32)) bis → ⊥
without_has bits set r bis is same least greatest = grind (arith, zero_or_one, clear_same)

pub without_others : (bits set r bis : ℕ) → bits < 2 ^ 31 → bits ≡ set → r ≡ bis → 1 ≤ r → r ≤ 31 → (b : ℕ) → 1 ≤ b → b ≢ bis → Has (bit_and bits (2 ^ 32 - 1 - 1 * 2 ^ (r - 1) % 2 ^ 32)) b ↔ Has set b
without_others bits set r bis small is same least greatest b from other = grind (arith, same_bit, clear_other)
