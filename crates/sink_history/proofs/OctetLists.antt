-- Lists of octets, put together and taken apart.
use Rattle.sink_history.proofs.Prelude.{ℕ, zero, suc, ◌<◌, ◌/◌, ◌%◌, List, [], ◌∷◌, ◌++◌, arith, IsOctets, IsOctets-rest}
use Rattle.bcast_base.specs.Encoding.{number}

pub no_octets : IsOctets []
no_octets i = omega arith

pub one_more : (x : ℕ) (xs : List ℕ) → x < 256 → IsOctets xs → IsOctets (x ∷ xs)
one_more x xs small octets x5 = grind arith

pub joined_octets : (xs ys : List ℕ) → IsOctets xs → IsOctets ys → IsOctets (xs ++ ys)
joined_octets [] ys prefix back = back
joined_octets (x ∷ xs) ys prefix back = one_more x (xs ++ ys) (prefix 0) (joined_octets xs ys (IsOctets-rest x xs prefix) back)

pub octets_behind : (xs ys : List ℕ) → IsOctets (xs ++ ys) → IsOctets ys
octets_behind [] ys all = all
octets_behind (x ∷ xs) ys all = octets_behind xs ys (IsOctets-rest x (xs ++ ys) all)

pub number_octets : (k value : ℕ) → IsOctets (number k value)
unfolding number
number_octets zero value = no_octets
number_octets (suc k) value = one_more (value % 256) (number k (value / 256)) (omega arith) (number_octets k (value / 256))
