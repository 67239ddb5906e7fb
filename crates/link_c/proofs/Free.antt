-- What C's tests say of the fields of an operation.
use Rattle.link_c.proofs.Prelude.{◌≡◌, ℕ, List, [], ◌∷◌, map, Bool, true, false, not, Option, Some, None, refl, ap, ◌∙◌, and_parts, counted_in, ◌>>=◌, group_of, Wish, are_free, wish}
use Rattle.std.specs.List.{flat_map}
use Rattle.bcast_base.specs.Layout.{NoneReserved}
use Rattle.bcast_base.specs.Subgroups.{is_reserved, subgroup_fields}
use Rattle.link_c.specs.Wishes.{wishes_in}

abbrev pub bits_of : List Wish → List ℕ
bits_of wishes = map (λ (one : Wish). one.bis_sync) wishes

bits_behind : (bits : ℕ) (others metadata : List ℕ) (read : Option (List Wish)) (wishes : List Wish)
    → ((back : List Wish) → read ≡ Some back → bits_of back ≡ others) → (read >>= λ back. Some (wish bits metadata ∷ back)) ≡ Some wishes
    → bits_of wishes ≡ bits ∷ others
bits_behind bits others metadata None wishes so_far is = absurd cc
bits_behind bits others metadata (Some back) wishes so_far is =
    let same : wishes ≡ wish bits metadata ∷ back = cc in
    ap bits_of same ∙ ap (λ (left : List ℕ). bits ∷ left) (so_far back refl)

bits_taken : (bits : ℕ) (others : List ℕ) (taken : Option (List ℕ × List ℕ)) (wishes : List Wish)
    → ((rest : List ℕ) (back : List Wish) → wishes_in others rest ≡ Some back → bits_of back ≡ others)
    → (taken >>= λ metadata. wishes_in others metadata.1 >>= λ back. Some (wish bits metadata.0 ∷ back)) ≡ Some wishes → bits_of wishes ≡ bits ∷ others
bits_taken bits others None wishes so_far is = absurd cc
bits_taken bits others (Some metadata) wishes so_far is =
    bits_behind bits others metadata.0 (wishes_in others metadata.1) wishes (so_far metadata.1) is

-- the bits of the wishes are those that C says
pub bits_in : (bis_sync octets : List ℕ) (wishes : List Wish) → wishes_in bis_sync octets ≡ Some wishes → bits_of wishes ≡ bis_sync
unfolding wishes_in
bits_in [] [] wishes is = let none : wishes ≡ [] = cc in ap bits_of none
bits_in [] (octet ∷ rest) wishes is = absurd cc
bits_in (bits ∷ others) octets wishes is = bits_taken bits others (counted_in octets) wishes (λ rest back. bits_in others rest back) is

not_true : (b : Bool) → not b ≡ true → b ≡ false
not_true true is = absurd cc
not_true false is = refl

wishes_free : (wishes : List Wish) → are_free (bits_of wishes) ≡ true → NoneReserved (flat_map (λ (one : Wish). subgroup_fields (group_of one)) wishes)
wishes_free [] is = tt
wishes_free (one ∷ wishes) is =
    let parts = and_parts (not (is_reserved one.bis_sync)) (are_free (bits_of wishes)) is in
    (not_true (is_reserved one.bis_sync) parts.0, (refl, (refl, wishes_free wishes parts.1)))

-- no subgroup has a reserved value
pub read_free : (bis_sync octets : List ℕ) (wishes : List Wish) → are_free bis_sync ≡ true → wishes_in bis_sync octets ≡ Some wishes
    → NoneReserved (flat_map (λ (one : Wish). subgroup_fields (group_of one)) wishes)
read_free bis_sync octets wishes free is = wishes_free wishes (ap are_free (bits_in bis_sync octets wishes is) ∙ free)
