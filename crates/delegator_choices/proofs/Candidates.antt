-- The candidates of the subgroups that are wanted.
use Rattle.delegator_choices.proofs.Prelude.{ℕ, zero, suc, ◌≡◌, ◌+◌, ◌-◌, ◌<◌, ◌≤◌, ◌^◌, Bool, true, List, [], ◌∷◌, length, map, take, drop, Some, refl, sym, ap, ◌∙◌, subst, inl, inr, arith, ◌==◌, ◌||◌, ◌&&◌, nat_le, slice_get, filter, list_any, range_with_len, and_parts, cases_Bool, cond-false, le-leb, leb-true, or_left, or_right, pow_pos, candidates, first_candidates, is_candidate, set_with, sets_with, is_chosen, left_of}
use Rattle.std.proofs.lemmas.List.Folds.{list_any-append}
use Rattle.std.proofs.lemmas.List.{drop_all}
use Rattle.base_grammar.specs.declared.subgroup.BaseEntry.{BaseEntry}
use Rattle.base_grammar.specs.declared.subgroup.Subgroup.{Subgroup}
use Rattle.base_grammar.specs.Layout.{Endpoint, bis_of, indices, stands_in}
use Rattle.bass_operations.specs.declared.wishes.Wish.{Wish}
use Rattle.pacs_records.specs.declared.capability.Capability.{Capability}
use Rattle.delegator_choices.specs.declared.choosing.Choice.{Choice}
use Rattle.delegator_choices.proofs.Taken.{below_all, below_each, chooses_last, Chooses, filter_below, first_below, first_of_all, sets_below}
use Rattle.delegator_choices.proofs.Streams.{drop_get}

-- one of the entries has the index
pub entry_stands : (bis : ℕ) (entries : List BaseEntry) → list_any (λ entry. entry.bis == bis) entries ≡ stands_in (map bis_of entries) bis
entry_stands bis [] = refl
entry_stands bis (entry ∷ entries) = ap (λ (b : Bool). (entry.bis == bis) || b) (entry_stands bis entries)

-- an index of a subgroup stands in the BASE
pub part_of : (subgroups : List Subgroup) (place : ℕ) (subgroup : Subgroup) (bis : ℕ) → slice_get subgroups place ≡ Some subgroup
    → stands_in (map bis_of subgroup.entries) bis ≡ true → stands_in (indices subgroups) bis ≡ true
part_of [] place subgroup bis at stands = absurd cc
part_of (s ∷ subgroups) zero subgroup bis at stands =
    let same : s ≡ subgroup = cc in
    list_any-append (λ b. b == bis) (map bis_of s.entries) (indices subgroups)
    ∙ or_left (stands_in (map bis_of s.entries) bis) (stands_in (indices subgroups) bis) (ap (λ (x : Subgroup). stands_in (map bis_of x.entries) bis) same ∙ stands)
part_of (s ∷ subgroups) (suc place) subgroup bis at stands =
    list_any-append (λ b. b == bis) (map bis_of s.entries) (indices subgroups)
    ∙ or_right (stands_in (map bis_of s.entries) bis) (stands_in (indices subgroups) bis) (part_of subgroups place subgroup bis at stands)

-- the candidates of each subgroup that is wanted, in order
abbrev pub candidates_of : Capability → Endpoint → ℕ → List Wish → List Subgroup → List (List ℕ)
candidates_of capability base num_bis [] subgroups = []
candidates_of capability base num_bis (wish ∷ wishes) [] = []
candidates_of capability base num_bis (wish ∷ wishes) (subgroup ∷ subgroups) =
    candidates capability base num_bis wish.bis_sync subgroup ∷ candidates_of capability base num_bis wishes subgroups

-- those that are taken are the first of them
first_are : (capability : Capability) (base : Endpoint) (num_bis room : ℕ) (wishes : List Wish) (subgroups : List Subgroup)
    → first_of_all room (candidates_of capability base num_bis wishes subgroups) ≡ first_candidates capability base num_bis room wishes subgroups
first_are capability base num_bis room [] subgroups = refl
first_are capability base num_bis room (wish ∷ wishes) [] = refl
first_are capability base num_bis room (wish ∷ wishes) (subgroup ∷ subgroups) =
    let all : List ℕ = candidates capability base num_bis wish.bis_sync subgroup in
    ap (λ others. take room all ∷ others) (first_are capability base num_bis (room - length all) wishes subgroups)

pub candidates_next : (capability : Capability) (base : Endpoint) (num_bis place : ℕ) (wishes : List Wish) (subgroups : List Subgroup) (wish : Wish) (subgroup : Subgroup)
    → slice_get wishes place ≡ Some wish → slice_get subgroups place ≡ Some subgroup
    → candidates_of capability base num_bis (drop place wishes) (drop place subgroups)
    ≡ candidates capability base num_bis wish.bis_sync subgroup ∷ candidates_of capability base num_bis (drop (place + 1) wishes) (drop (place + 1) subgroups)
candidates_next capability base num_bis place wishes subgroups wish subgroup e f =
    λ i. candidates_of capability base num_bis (drop_get wishes place wish e i) (drop_get subgroups place subgroup f i)

no_subgroup : (capability : Capability) (base : Endpoint) (num_bis : ℕ) (wishes : List Wish) (subgroups : List Subgroup) → subgroups ≡ []
    → candidates_of capability base num_bis wishes subgroups ≡ []
no_subgroup capability base num_bis [] subgroups none = refl
no_subgroup capability base num_bis (wish ∷ wishes) subgroups none = ap (candidates_of capability base num_bis (wish ∷ wishes)) none

-- ---- no candidate is above Num_BIS

within : (a b c d : Bool) (bis num_bis : ℕ) → (a && (b && (c && d))) ≡ true → c ≡ true
within a b c d bis num_bis all = (and_parts c d (and_parts b (c && d) (and_parts a (b && (c && d)) all).1).1).0

pub candidate_within : (capability : Capability) (base : Endpoint) (num_bis bits : ℕ) (subgroup : Subgroup) (bis : ℕ) → is_candidate capability base num_bis bits subgroup bis ≡ true → bis ≤ num_bis
candidate_within capability base num_bis bits subgroup bis is = leb-true bis num_bis (within _ _ _ _ bis num_bis is)

-- a stream of the group
pub is_within : (bis num_bis : ℕ) → bis ≤ num_bis → nat_le bis num_bis ≡ true
is_within bis num_bis within = le-leb bis num_bis within

-- past them there is no candidate
none_from : (test : ℕ → Bool) (n start count : ℕ) → ((bis : ℕ) → test bis ≡ true → bis ≤ n) → n < start → filter test (range_with_len start count) ≡ []
none_from test n start zero within past = refl
none_from test n start (suc count) within past =
    elim (cases_Bool (test start)) [
      | inl is ↦ absurd (omega (arith, within start is, past))
      | inr fails ↦
          cond-false (test start) (start ∷ filter test (range_with_len (start + 1) count)) (filter test (range_with_len (start + 1) count)) fails
          ∙ none_from test n (start + 1) count within (omega (arith, past))
    ]

pub left_none : (choice : Choice) (index : ℕ) → choice.num_bis < index → left_of choice index ≡ []
left_none choice index past =
    none_from (is_chosen choice) choice.num_bis index (32 - index)
    (candidate_within choice.capability.now choice.base.now choice.num_bis choice.wanted choice.subgroup.now) past

pub candidates_below : (capability : Capability) (base : Endpoint) (num_bis bits : ℕ) (subgroup : Subgroup) → below_all num_bis (candidates capability base num_bis bits subgroup)
candidates_below capability base num_bis bits subgroup =
    filter_below num_bis (is_candidate capability base num_bis bits subgroup) (candidate_within capability base num_bis bits subgroup) 1 31 (omega arith)

pub candidates_small : (capability : Capability) (base : Endpoint) (num_bis bits : ℕ) (subgroup : Subgroup) → num_bis ≤ 31 → below_all 31 (candidates capability base num_bis bits subgroup)
candidates_small capability base num_bis bits subgroup few =
    filter_below 31 (is_candidate capability base num_bis bits subgroup) (λ bis is. omega (arith, candidate_within capability base num_bis bits subgroup bis is, few)) 1 31 (omega arith)

pub all_below : (capability : Capability) (base : Endpoint) (num_bis : ℕ) (wishes : List Wish) (subgroups : List Subgroup) → below_each num_bis (candidates_of capability base num_bis wishes subgroups)
all_below capability base num_bis [] subgroups = tt
all_below capability base num_bis (wish ∷ wishes) [] = tt
all_below capability base num_bis (wish ∷ wishes) (subgroup ∷ subgroups) = (candidates_below capability base num_bis wish.bis_sync subgroup, all_below capability base num_bis wishes subgroups)

-- ---- once no subgroup is left

-- what is taken is the first candidates
pub record IsChosen (capability : Capability) (base : Endpoint) (num_bis room : ℕ) (wishes : List Wish) (which : ℕ) (bits : List ℕ) : Type 0 where
  pub bits_are : bits ≡ map (set_with 0) (first_candidates capability base num_bis room wishes base.subgroups)
  pub which_is : which ≡ sets_with 0 (first_candidates capability base num_bis room wishes base.subgroups)
  pub which_within : which < 2 ^ num_bis

-- those of the subgroups from this place on
abbrev pub left_at : Capability → Endpoint → ℕ → List Wish → ℕ → List (List ℕ)
left_at capability base num_bis wishes place = candidates_of capability base num_bis (drop place wishes) (drop place base.subgroups)

set_within : (capability : Capability) (base : Endpoint) (num_bis room : ℕ) (wishes : List Wish)
    → sets_with 0 (first_of_all room (candidates_of capability base num_bis wishes base.subgroups)) < 2 ^ num_bis
set_within capability base num_bis room wishes =
    sets_below num_bis 0 (first_of_all room (candidates_of capability base num_bis wishes base.subgroups)) (pow_pos num_bis)
    (first_below num_bis room (candidates_of capability base num_bis wishes base.subgroups) (all_below capability base num_bis wishes base.subgroups))

chosen_last : (capability : Capability) (base : Endpoint) (num_bis streams : ℕ) (wishes : List Wish) (rest : List (List ℕ)) (room which : ℕ) (bits : List ℕ) → rest ≡ []
    → Chooses (candidates_of capability base num_bis wishes base.subgroups) streams rest room which bits → IsChosen capability base num_bis streams wishes which bits
chosen_last capability base num_bis streams wishes rest room which bits none leads =
    let all : List (List ℕ) = candidates_of capability base num_bis wishes base.subgroups in
    let last = chooses_last all streams rest room which bits none leads in
    let are : first_of_all streams all ≡ first_candidates capability base num_bis streams wishes base.subgroups = first_are capability base num_bis streams wishes base.subgroups in
    record {
      bits_are = last.0 ∙ ap (map (set_with 0)) are;
      which_is = last.1 ∙ ap (sets_with 0) are;
      which_within = subst (λ set. set < 2 ^ num_bis) (sym last.1) (set_within capability base num_bis streams wishes);
    }

pub past_wishes : (capability : Capability) (base : Endpoint) (num_bis streams : ℕ) (wishes : List Wish) (place room which : ℕ) (bits : List ℕ) → length wishes ≤ place
    → Chooses (candidates_of capability base num_bis wishes base.subgroups) streams (left_at capability base num_bis wishes place) room which bits
    → IsChosen capability base num_bis streams wishes which bits
past_wishes capability base num_bis streams wishes place room which bits past leads =
    chosen_last capability base num_bis streams wishes (left_at capability base num_bis wishes place) room which bits
    (ap (λ some. candidates_of capability base num_bis some (drop place base.subgroups)) (drop_all place wishes past)) leads

pub past_subgroups : (capability : Capability) (base : Endpoint) (num_bis streams : ℕ) (wishes : List Wish) (place room which : ℕ) (bits : List ℕ) → length base.subgroups ≤ place
    → Chooses (candidates_of capability base num_bis wishes base.subgroups) streams (left_at capability base num_bis wishes place) room which bits
    → IsChosen capability base num_bis streams wishes which bits
past_subgroups capability base num_bis streams wishes place room which bits past leads =
    chosen_last capability base num_bis streams wishes (left_at capability base num_bis wishes place) room which bits
    (no_subgroup capability base num_bis (drop place wishes) (drop place base.subgroups) (drop_all place base.subgroups past)) leads
