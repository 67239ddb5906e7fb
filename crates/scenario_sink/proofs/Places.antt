-- What stands on each of the four links.
use Rattle.scenario_sink.proofs.Prelude.{ℕ, zero, suc, ◌≡◌, ◌≢◌, ◌≤◌, List, [], ◌∷◌, Option, Some, None, map, slice_set, refl, sym, ap, ◌∙◌, arith, inl, inr, option_map, slice_index_or, cases_eq, Assistant, link_at, linked, mtu_of, slots_of, with_assistant_on, Linked, link_of, Links}
use Rattle.multi_assist.specs.declared.place.Place.{Place}

-- ---- a list of links

mapped : {A : Type 0} (f : Option A → Option A) (xs : List (Option A)) (i : ℕ) → f None ≡ None → slice_index_or (map f xs) i None ≡ f (slice_index_or xs i None)
mapped f (x ∷ xs) (suc i) none = mapped f xs i none
mapped f xs i none = search

set_other : {A : Type 0} (xs : List (Option A)) (at i : ℕ) (x : Option A) → i ≢ at → slice_index_or (slice_set xs at x) i None ≡ slice_index_or xs i None
set_other [] at i x other = refl
set_other (y ∷ xs) zero zero x other = absurd (other refl)
set_other (y ∷ xs) zero (suc i) x other = refl
set_other (y ∷ xs) (suc at) zero x other = refl
set_other (y ∷ xs) (suc at) (suc i) x other = set_other xs at i x (λ e. other (ap suc e))

pub at_mapped : (f : Option Linked → Option Linked) (old new : Links) → f None ≡ None → linked new ≡ map f (linked old) → (link : ℕ) → link_at new link ≡ f (link_at old link)
at_mapped f old new none is link = ap (λ on. slice_index_or on link None) is ∙ mapped f (linked old) link none

pub at_other : (old new : Links) (at : ℕ) (on : Option Linked) → linked new ≡ slice_set (linked old) at on → (link : ℕ) → link ≢ at → link_at new link ≡ link_at old link
at_other old new at on is link other = ap (λ ons. slice_index_or ons link None) is ∙ set_other (linked old) at link on other

pub at_it : (old new : Links) (at : ℕ) (on : Option Linked) → linked new ≡ slice_set (linked old) at on → at ≤ 3 → link_at new at ≡ on
at_it old new at on is least = grind (arith, slice_index_or)

-- a link on which something stands is one of the four
pub one_of_four : (links : Links) (link : ℕ) (on : Linked) → link_at links link ≡ Some on → link ≤ 3
one_of_four links link on is = grind arith

-- ---- an assistant that was lent

lent_to : (place : Place) (on : Linked) (a : Assistant) → link_of place ≡ Some on → link_of (record place { assistant = Some a }) ≡ Some (record on { assistant = a })
lent_to place on a is = by place.assistant refl is
  where
    by : (x : Option Assistant) → place.assistant ≡ x → option_map (λ (b : Assistant). record { waiting = place.waiting.items; assistant = b }) x ≡ Some on
        → link_of (record place { assistant = Some a }) ≡ Some (record on { assistant = a })
    by None e so = absurd cc
    by (Some b) e so = let same : record { waiting = place.waiting.items; assistant = b } ≡ on = cc in ap (λ (o : Linked). Some (record o { assistant = a })) same

pub lent : (links : Links) (link : ℕ) (on : Linked) (a : Assistant) → link_at links link ≡ Some on → link_at (with_assistant_on links link a) link ≡ Some (record on { assistant = a })
lent links zero on a is = lent_to links.first on a is
lent links (suc zero) on a is = lent_to links.second on a is
lent links (suc (suc zero)) on a is = lent_to links.third on a is
lent links (suc (suc (suc zero))) on a is = lent_to links.fourth on a is
lent links (suc (suc (suc (suc n)))) on a is = absurd cc

pub lent_elsewhere : (links : Links) (link other : ℕ) (on : Linked) (a : Assistant) → link_at links link ≡ Some on → other ≢ link
    → link_at (with_assistant_on links link a) other ≡ link_at links other
lent_elsewhere links zero zero on a there is = absurd (is refl)
lent_elsewhere links zero (suc other) on a there is = refl
lent_elsewhere links (suc zero) zero on a there is = refl
lent_elsewhere links (suc zero) (suc zero) on a there is = absurd (is refl)
lent_elsewhere links (suc zero) (suc (suc other)) on a there is = refl
lent_elsewhere links (suc (suc zero)) zero on a there is = refl
lent_elsewhere links (suc (suc zero)) (suc zero) on a there is = refl
lent_elsewhere links (suc (suc zero)) (suc (suc zero)) on a there is = absurd (is refl)
lent_elsewhere links (suc (suc zero)) (suc (suc (suc other))) on a there is = refl
lent_elsewhere links (suc (suc (suc zero))) zero on a there is = refl
lent_elsewhere links (suc (suc (suc zero))) (suc zero) on a there is = refl
lent_elsewhere links (suc (suc (suc zero))) (suc (suc zero)) on a there is = refl
lent_elsewhere links (suc (suc (suc zero))) (suc (suc (suc zero))) on a there is = absurd (is refl)
lent_elsewhere links (suc (suc (suc zero))) (suc (suc (suc (suc other)))) on a there is = refl
lent_elsewhere links (suc (suc (suc (suc link)))) other on a there is = absurd cc

-- what is left as it was
pub lent_same : (links : Links) (link other : ℕ) (on : Linked) → link_at links link ≡ Some on → link_at (with_assistant_on links link on.assistant) other ≡ link_at links other
lent_same links link other on is = elim (cases_eq other link) [
  | inl e ↦ ap (λ n. link_at (with_assistant_on links link on.assistant) n) e ∙ lent links link on on.assistant is ∙ sym is ∙ ap (link_at links) (sym e)
  | inr apart ↦ lent_elsewhere links link other on on.assistant is apart
]

-- it has the slots and the MTU that it had
pub lent_terms : (links : Links) (link : ℕ) (on : Linked) (a : Assistant) → link_at links link ≡ Some on
    → (slots_of (with_assistant_on links link a) ≡ slots_of links) × (mtu_of (with_assistant_on links link a) ≡ mtu_of links)
lent_terms links link on a there = grind arith
