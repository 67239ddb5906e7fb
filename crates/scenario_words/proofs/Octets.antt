-- Octets as digits and back, and a number as its octets.
use Rattle.scenario_words.proofs.Prelude.{◌≡◌, ◌<◌, ◌*◌, ◌^◌, ◌/◌, ℕ, zero, suc, false, nat_lt, List, [], ◌∷◌, ◌++◌, length, take, Ok, Option, Some, None, ap, sym, arith, le-ltb, append-nil, take_all, decode_of, encode_lower, decode_of-encode_lower, decode_of-ok, sum_from, IsOctets, number-length}
use Rattle.hex.specs.Hex.{encode_with}
use Rattle.bcast_base.specs.Encoding.{number}
use Rattle.bcast_base.proofs.Citable.{number_again}

pub digits_back : (octets : List ℕ) → IsOctets octets → decode_of (encode_lower octets) ≡ Ok octets
digits_back octets h = decode_of-encode_lower octets h

pub octets_from : (word octets : List ℕ) → decode_of word ≡ Ok octets → IsOctets octets
octets_from word octets e = (decode_of-ok word octets e).3

pub some_digits : (octet : ℕ) (octets : List ℕ) → encode_lower (octet ∷ octets) ≡ [] → ⊥
unfolding encode_with
some_digits octet octets e = cc

pub number_octets : (count n : ℕ) → IsOctets (number count n)
unfolding number
number_octets zero n i = omega arith
number_octets (suc count) n zero = omega arith
number_octets (suc count) n (suc i) = number_octets count (n / 256) i

-- the number that was read
first_of : Option (ℕ × List ℕ) → ℕ
first_of None = 0
first_of (Some read) = read.0

pub number_sum : (count n : ℕ) → n < 2 ^ (8 * count) → n ≡ sum_from 0 (number count n)
unfolding first_of
number_sum count n small =
    let again = number_again count n [] small in
    let whole : number count n ++ [] ≡ number count n = append-nil (number count n) in
    let long : nat_lt (length (number count n)) count ≡ false = le-ltb _ _ (omega (arith, number-length count n)) in
    let all : take count (number count n) ≡ number count n = take_all count (number count n) (omega (arith, number-length count n)) in
    let read = rw (whole, long, all) at again in
    sym (ap first_of read)
