-- Wishes that are read are encoded so, and those that are encoded so are read.
use Rattle.bass_operations.proofs.Prelude.{◌≡◌, ℕ, suc, List, [], ◌∷◌, ◌++◌, length, map, Option, Some, refl, sym, ap, subst, ◌∙◌, arith, append-nil, flat_map, AllByRecursion, Field, laid, IsOctets, whole, Subgroup, Fits, subgroup, subgroup_fields, bind_some, some_is, subgroup_laid, subgroups_take, subgroups_again, Wish, group_of, WishFits, wish_of}
use Rattle.std.proofs.lemmas.Grind.{flat_map-append}
use Rattle.bcast_base.specs.Subgroups.{subgroups_in}
use Rattle.bass_operations.specs.Reading.{wishes_in}

abbrev pub wish_fields : Wish → List Field
wish_fields wish = subgroup_fields (group_of wish)

pub wishes_laid : (wishes : List Wish) → laid (flat_map wish_fields wishes) ≡ flat_map subgroup (map group_of wishes)
wishes_laid [] = refl
wishes_laid (wish ∷ wishes) =
    flat_map-append (λ (field : Field). field.octets) (wish_fields wish) (flat_map wish_fields wishes)
    ∙ (ap (λ (x : List ℕ). x ++ laid (flat_map wish_fields wishes)) (subgroup_laid (group_of wish)) ∙ ap (λ (x : List ℕ). subgroup (group_of wish) ++ x) (wishes_laid wishes))

pub fields_same : (groups : List Subgroup) → flat_map wish_fields (map wish_of groups) ≡ flat_map subgroup_fields groups
fields_same [] = refl
fields_same (group ∷ groups) = ap (λ (x : List Field). subgroup_fields group ++ x) (fields_same groups)

pub groups_back : (groups : List Subgroup) → map group_of (map wish_of groups) ≡ groups
groups_back [] = refl
groups_back (group ∷ groups) = ap (λ (x : List Subgroup). group ∷ x) (groups_back groups)

pub wishes_back : (wishes : List Wish) → map wish_of (map group_of wishes) ≡ wishes
wishes_back [] = refl
wishes_back (wish ∷ wishes) = ap (λ (x : List Wish). wish ∷ x) (wishes_back wishes)

groups_fit : (wishes : List Wish) → AllByRecursion WishFits wishes → AllByRecursion Fits (map group_of wishes)
groups_fit [] h = tt
groups_fit (wish ∷ wishes) h = (record { bits = h.0.bis_sync; metadata = omega (arith, h.0.metadata) }, groups_fit wishes h.1)

wishes_fit : (groups : List Subgroup) → AllByRecursion Fits groups → AllByRecursion WishFits (map wish_of groups)
wishes_fit [] h = tt
wishes_fit (group ∷ groups) h = (record { bis_sync = h.0.bits; metadata = omega (arith, h.0.metadata) }, wishes_fit groups h.1)

length-groups : (wishes : List Wish) → length (map group_of wishes) ≡ length wishes
length-groups [] = refl
length-groups (wish ∷ wishes) = ap (λ n. suc n) (length-groups wishes)

length-wishes : (groups : List Subgroup) → length (map wish_of groups) ≡ length groups
length-wishes [] = refl
length-wishes (group ∷ groups) = ap (λ n. suc n) (length-wishes groups)

pub whole_some : {A B : Type 0} (read : Option (A × List B)) (x : A) → whole read ≡ Some x → read ≡ Some (x, [])
whole_some read x e = grind arith

-- the subgroups that wishes were read of
pub groups_of_wishes : (count : ℕ) (from : List ℕ) (wishes : List Wish) → wishes_in count from ≡ Some wishes → (groups : List Subgroup) × (subgroups_in count from ≡ Some (groups, []))
    × (map wish_of groups ≡ wishes)
unfolding wishes_in
groups_of_wishes count from wishes e = grind (arith, bind_some, whole, map, wish_of, whole_some, some_is)

pub record AreEncoded (count : ℕ) (from : List ℕ) (wishes : List Wish) : Type 0 where
  pub encoded : from ≡ laid (flat_map wish_fields wishes)
  pub fit : AllByRecursion WishFits wishes
  pub counted : length wishes ≡ count

pub wishes_take : (count : ℕ) (from : List ℕ) (wishes : List Wish) → IsOctets from → wishes_in count from ≡ Some wishes → AreEncoded count from wishes
wishes_take count from wishes h e =
    let g = groups_of_wishes count from wishes e in
    let t = subgroups_take count from (g.0, []) h g.1 in
    let encoded : from ≡ laid (flat_map wish_fields (map wish_of g.0)) =
    t.0.parts ∙ (append-nil (flat_map subgroup g.0) ∙ (ap (flat_map subgroup) (sym (groups_back g.0)) ∙ sym (wishes_laid (map wish_of g.0)))) in
    subst (AreEncoded count from) g.2 (record { encoded = encoded; fit = wishes_fit g.0 t.1; counted = length-wishes g.0 ∙ t.2 })

pub wishes_again : (wishes : List Wish) → AllByRecursion WishFits wishes → wishes_in (length wishes) (laid (flat_map wish_fields wishes)) ≡ Some wishes
unfolding wishes_in
wishes_again wishes h =
    grind (
      arith,
      subgroups_again (map group_of wishes) [] (groups_fit wishes h),
      append-nil (flat_map subgroup (map group_of wishes)),
      wishes_laid wishes,
      length-groups wishes,
      wishes_back wishes,
    )
