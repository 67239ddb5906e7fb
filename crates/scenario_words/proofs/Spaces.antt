-- No word that is written has a space in it, so that the words of a line are the words that were joined.
use Rattle.scenario_words.proofs.Prelude.{◌≡◌, ◌<◌, ◌/◌, ◌%◌, ◌^◌, ℕ, suc, Bool, true, false, not, ◌&&◌, nat_eq, List, [], ◌∷◌, ◌++◌, length, get_or, decimal, refl, ap, arith, eqb-true, slice_index, ⊤, lower_digits, encode_lower, IsOctets, IsOctets-rest, words_of, digits_decimal, digits, joined}
use Rattle.hex.specs.Hex.{encode_with}
use Rattle.scenario_words.proofs.Citable.{own}
use Rattle.scenario_words.proofs.Splitting.{refused}
use Rattle.scenario_words.specs.Joined.{behind}

-- no octet of the word is a space
abbrev pub NoSpace : List ℕ → Type 0
NoSpace [] = ⊤
NoSpace (octet ∷ word) = (nat_eq octet 32 ≡ false) × NoSpace word

abbrev pub NoSpaces : List (List ℕ) → Type 0
NoSpaces [] = ⊤
NoSpaces (word ∷ words) = NoSpace word × NoSpaces words

abbrev pub is_unspaced : List ℕ → Bool
is_unspaced [] = true
is_unspaced (octet ∷ word) = not (nat_eq octet 32) && is_unspaced word

both : (a b : Bool) → (not a && b) ≡ true → (a ≡ false) × (b ≡ true)
both a b e = grind arith

pub unspaced : (word : List ℕ) → is_unspaced word ≡ true → NoSpace word
unspaced [] e = tt
unspaced (octet ∷ word) e = let parts = both (nat_eq octet 32) (is_unspaced word) e in (parts.0, unspaced word parts.1)

other : (octet : ℕ) → (octet ≡ 32 → ⊥) → nat_eq octet 32 ≡ false
other octet h = refused (nat_eq octet 32) (λ same. h (eqb-true octet 32 same))

unspaced_at : (word : List ℕ) → ((i : ℕ) → i < length word → get_or word i 0 ≡ 32 → ⊥) → NoSpace word
unspaced_at [] h = tt
unspaced_at (octet ∷ word) h = (other octet (h 0 (omega arith)), unspaced_at word (λ i inside. h (suc i) (omega arith)))

pub decimal_unspaced : (n : ℕ) → n < 2 ^ 64 → NoSpace (decimal n)
decimal_unspaced n small = grind (arith, digits_decimal, own, unspaced_at, decimal)

digit_unspaced : (k : ℕ) → k < 16 → nat_eq (slice_index lower_digits k) 32 ≡ false
digit_unspaced k small = grind (arith, lower_digits, unspaced)

pub digits_unspaced : (octets : List ℕ) → IsOctets octets → NoSpace (encode_lower octets)
unfolding encode_with
digits_unspaced [] h = tt
digits_unspaced (octet ∷ octets) h =
    let small = h 0 in
    (digit_unspaced (octet / 16) (omega arith), (digit_unspaced (octet % 16) (omega arith), digits_unspaced octets (IsOctets-rest octet octets h)))

pub octets_unspaced : (octets : List ℕ) → IsOctets octets → NoSpace (digits octets)
octets_unspaced octets h = grind (arith, digits_unspaced)

pub more_unspaced : (words more : List (List ℕ)) → NoSpaces words → NoSpaces more → NoSpaces (words ++ more)
more_unspaced [] more h k = k
more_unspaced (word ∷ words) more h k = (h.0, more_unspaced words more h.1 k)

-- ---- the words of a line

first_split : (word : List ℕ) (words : List (List ℕ)) → NoSpace word → words_of (behind words) ≡ [] ∷ words → words_of (word ++ behind words) ≡ word ∷ words
first_split [] words h e = e
first_split (octet ∷ word) words h e = grind (arith, first_split word words h.1 e, h.0)

behind_split : (words : List (List ℕ)) → NoSpaces words → words_of (behind words) ≡ [] ∷ words
behind_split [] h = refl
behind_split (word ∷ words) h = ap (λ (ws : List (List ℕ)). [] ∷ ws) (first_split word words h.0 (behind_split words h.1))

pub joined_split : (first : List ℕ) (words : List (List ℕ)) → NoSpace first → NoSpaces words → words_of (joined first words) ≡ first ∷ words
joined_split first words h hs = first_split first words h (behind_split words hs)
