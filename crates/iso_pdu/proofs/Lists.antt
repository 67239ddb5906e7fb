-- The first octets of a list.
use Rattle.iso_pdu.proofs.Prelude.{◌≡◌, ℕ, ◌≤◌, ◌<◌, ◌^◌, List, [], ◌∷◌, length, take, set, get_or, refl, arith, sum_from}

pub take-set_two : (octets : List ℕ) (a b : ℕ) → 2 ≤ length octets → take 2 (set (set octets 0 a) 1 b) ≡ a ∷ b ∷ []
take-set_two [] a b h = absurd (omega arith)
take-set_two (x ∷ []) a b h = absurd (omega arith)
take-set_two (x ∷ y ∷ octets) a b h = refl

pub sum_three_below : (octets : List ℕ) → 3 ≤ length octets → ((i : ℕ) → get_or octets i 0 < 256) → sum_from 0 (take 3 octets) < 2 ^ 24
sum_three_below [] h fits = absurd (omega arith)
sum_three_below (x ∷ []) h fits = absurd (omega arith)
sum_three_below (x ∷ y ∷ []) h fits = absurd (omega arith)
sum_three_below (x ∷ y ∷ z ∷ octets) h fits = omega (arith, fits 0, fits 1, fits 2)
