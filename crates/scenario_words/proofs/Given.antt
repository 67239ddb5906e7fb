-- Values that are tested one after the other.
use Rattle.scenario_words.proofs.Prelude.{◌≡◌, ◌+◌, ℕ, zero, suc, List, [], ◌∷◌, drop, Some, ap, refl, ◌↔◌, add-one, slice_get, AllByRecursion, Wish, MetadataFits, HasWishWords, HasWords, words_for}
use Rattle.scenario_words.specs.declared.value.Value.{Value}
use Rattle.scenario_words.specs.Lines.{AllHaveWords, all_words}
use Rattle.scenario_words.specs.Given.{Placement, value_at, at_place, place_in, value_in, places_of, values_of, HasWordsAt, AllGivenHaveWords, words_at, given_words}

pub metadata_fits : (all : List Wish) → AllByRecursion HasWishWords all → MetadataFits all
metadata_fits [] h = tt
metadata_fits (wish ∷ others) h = (h.0.1.0, metadata_fits others h.1)

pub next_item : {A : Type 0} (all : List A) (i : ℕ) (item : A) → slice_get all i ≡ Some item → drop i all ≡ item ∷ drop (suc i) all
next_item [] i item e = absurd cc
next_item {A} (first ∷ others) zero item e = ap (λ (x : A). x ∷ others) cc
next_item (first ∷ others) (suc i) item e = next_item others i item e

-- those from place i on have words exactly where all have
abbrev pub WishesFrom : List Wish → ℕ → Type 0
WishesFrom all i = AllByRecursion HasWishWords (drop i all) ↔ AllByRecursion HasWishWords all

pub wish_passed : (all : List Wish) (i : ℕ) (wish : Wish) → slice_get all i ≡ Some wish → HasWishWords wish → WishesFrom all i → WishesFrom all (i + 1)
wish_passed all i wish at fits from =
    let next = next_item all i wish at in
    rw add-one (λ others. from.0 (rw next (fits, others)), λ whole. (rw next at from.1 whole).1)

abbrev pub GivenFrom : List Value → ℕ → Type 0
GivenFrom all i = AllGivenHaveWords (drop i all) ↔ AllGivenHaveWords all

-- ---- values as they are given, and at their places

placed_has : (placement : Placement) → HasWordsAt placement ↔ HasWords (place_in placement) (value_in placement)
placed_has (value_at place value) = (λ h. h, λ h. h)

pub all_have : (given : List Value) → AllGivenHaveWords given ↔ AllHaveWords (places_of given) (values_of given)
all_have [] = (λ h. h, λ h. h)
all_have (value ∷ values) =
    let first = placed_has (at_place value) in
    let others = all_have values in
    (λ h. (first.0 h.0, others.0 h.1), λ h. (first.1 h.0, others.1 h.1))

placed_words : (placement : Placement) → words_at placement ≡ words_for (place_in placement) (value_in placement)
placed_words (value_at place value) = refl

pub all_words_given : (given : List Value) → given_words given ≡ all_words (places_of given) (values_of given)
all_words_given [] = refl
all_words_given (value ∷ values) = rw (placed_words (at_place value), all_words_given values) refl
