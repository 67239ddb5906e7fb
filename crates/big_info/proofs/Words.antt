-- A word is the sum of its fields, each times 2 to its first bit.
use Rattle.big_info.proofs.Prelude.{◌≡◌, ◌<◌, ℕ, ◌+◌, ◌*◌, ◌/◌, ◌%◌, ◌^◌, arith}

pub counts : (w a b : ℕ) → w < 2 ^ 8 → a ≡ w / 2 ^ 0 % 2 ^ 5 → b ≡ w / 2 ^ 5 % 2 ^ 3 → w ≡ a + 2 ^ 5 * b
counts w a b small x y = omega arith

pub interval : (w a b c d : ℕ) → w < 2 ^ 32 → a ≡ w / 2 ^ 0 % 2 ^ 14 → b ≡ w / 2 ^ 14 % 2 ^ 1 → c ≡ w / 2 ^ 15 % 2 ^ 12 → d ≡ w / 2 ^ 27 % 2 ^ 5
    → w ≡ a + 2 ^ 14 * b + 2 ^ 15 * c + 2 ^ 27 * d
interval w a b c d small x y z u = omega arith

pub time : (w a b : ℕ) → w < 2 ^ 24 → a ≡ w / 2 ^ 0 % 2 ^ 20 → b ≡ w / 2 ^ 20 % 2 ^ 4 → w ≡ a + 2 ^ 20 * b
time w a b small x y = omega arith

pub unit : (w a b : ℕ) → w < 2 ^ 32 → a ≡ w / 2 ^ 0 % 2 ^ 20 → b ≡ w / 2 ^ 20 % 2 ^ 12 → w ≡ a + 2 ^ 20 * b
unit w a b small x y = omega arith

pub channels : (w a b : ℕ) → w < 2 ^ 40 → a ≡ w / 2 ^ 0 % 2 ^ 37 → b ≡ w / 2 ^ 37 % 2 ^ 3 → w ≡ a + 2 ^ 37 * b
channels w a b small x y = omega arith

pub payloads : (w a b : ℕ) → w < 2 ^ 40 → a ≡ w / 2 ^ 0 % 2 ^ 39 → b ≡ w / 2 ^ 39 % 2 ^ 1 → w ≡ a + 2 ^ 39 * b
payloads w a b small x y = omega arith
