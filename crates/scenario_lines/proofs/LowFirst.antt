-- The octets of a number as std has them are its octets with the least first.
use Rattle.scenario_lines.proofs.Prelude.{◌≡◌, ◌/◌, ℕ, w16, w32, refl, arith, to_le_bytes}
use Rattle.bcast_base.specs.Encoding.{number}

pub two_low_first : (n : ℕ) → to_le_bytes w16 n ≡ number 2 n
unfolding number
two_low_first n = refl

pub four_low_first : (n : ℕ) → to_le_bytes w32 n ≡ number 4 n
unfolding number
four_low_first n =
    let at2 : n / 256 / 256 ≡ n / 65536 = omega arith in
    let at3 : n / 65536 / 256 ≡ n / 16777216 = omega arith in
    rw (at2, at3) refl
