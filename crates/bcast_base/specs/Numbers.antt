-- Numbers on the air are little-endian (Core 5.2, volume 6 part B, section 1.2): the number that octets encode
-- is the sum of octet i × 256 ^ i.
use Rattle.std.specs.Prelude.{ℕ, List, [], ◌∷◌, ◌+◌, ◌*◌, ◌^◌, ◌≡◌}

-- the sum of these octets, of which the first stands at place i
abbrev pub sum_from : ℕ → List ℕ → ℕ
sum_from i [] = 0
sum_from i (octet ∷ octets) = octet * 256 ^ i + sum_from (i + 1) octets

-- n is the number that the octets encode
abbrev pub Le : ℕ → List ℕ → Type 0
Le n octets = n ≡ sum_from 0 octets
