-- The streams that a sink takes of a group have indices from 1 to Num_BIS.
use Rattle.delegator_history.proofs.Prelude.{◌≡◌, ◌≤◌, ◌<◌, ◌+◌, ◌-◌, ◌^◌, ℕ, zero, suc, Bool, true, cond, List, [], ◌∷◌, take, length, arith, ◌&&◌, nat_le, bit_or, is_none, map, AllByRecursion, filter, range_with_len, leb-true, or_lt, pow_below, pow_pos, Wish, Endpoint, bis_of, stands_in, Capability, candidates, first_candidates, is_candidate, set_with, sets_with}
use Rattle.base_grammar.specs.declared.subgroup.Subgroup.{Subgroup}

abbrev pub Within : ℕ → List ℕ → Type 0
Within most streams = AllByRecursion (λ bis. (1 ≤ bis) × (bis ≤ most)) streams

-- ---- sets

set_within : (most set : ℕ) (streams : List ℕ) → Within most streams → set < 2 ^ most → set_with set streams < 2 ^ most
set_within most set [] all small = small
set_within most set (bis ∷ streams) all small =
    set_within most (bit_or set (2 ^ (bis - 1))) streams all.1 (or_lt most set (2 ^ (bis - 1)) small (pow_below (bis - 1) most (omega arith)))

sets_within : (most set : ℕ) (lists : List (List ℕ)) → AllByRecursion (Within most) lists → set < 2 ^ most → sets_with set lists < 2 ^ most
sets_within most set [] all small = small
sets_within most set (streams ∷ others) all small = sets_within most (set_with set streams) others all.1 (set_within most set streams all.0 small)

-- ---- candidates

third_holds : (a b c d : Bool) → (a && (b && (c && d))) ≡ true → c ≡ true
third_holds a b c d is = grind arith

one_more : (passes : Bool) (most bis : ℕ) (others : List ℕ) → 1 ≤ bis → (passes ≡ true → bis ≤ most) → Within most others → Within most (cond passes (bis ∷ others) others)
one_more passes most bis others least only all = grind arith

those_within : (test : ℕ → Bool) (most start count : ℕ) → ((bis : ℕ) → test bis ≡ true → bis ≤ most) → 1 ≤ start → Within most (filter test (range_with_len start count))
those_within test most start zero only least = tt
those_within test most start (suc count) only least =
    one_more (test start) most start (filter test (range_with_len (start + 1) count)) least (only start) (those_within test most (start + 1) count only (omega arith))

candidates_within : (capability : Capability) (base : Endpoint) (num_bis bits : ℕ) (subgroup : Subgroup) → Within num_bis (candidates capability base num_bis bits subgroup)
candidates_within capability base num_bis bits subgroup =
    those_within (is_candidate capability base num_bis bits subgroup) num_bis 1 31
    (grind (arith, leb-true, third_holds, stands_in, map, bis_of, nat_le, is_none)) (omega arith)

some_within : (most room : ℕ) (streams : List ℕ) → Within most streams → Within most (take room streams)
some_within most (suc room) (bis ∷ streams) all = (all.0, some_within most room streams all.1)
some_within most room streams all = search

first_within : (capability : Capability) (base : Endpoint) (num_bis room : ℕ) (wishes : List Wish) (subgroups : List Subgroup)
    → AllByRecursion (Within num_bis) (first_candidates capability base num_bis room wishes subgroups)
first_within capability base num_bis room (wish ∷ wishes) (subgroup ∷ subgroups) =
    let all : List ℕ = candidates capability base num_bis wish.bis_sync subgroup in
    (some_within num_bis room all (candidates_within capability base num_bis wish.bis_sync subgroup), first_within capability base num_bis (room - length all) wishes subgroups)
first_within capability base num_bis room wishes subgroups = search (candidates, some_within, candidates_within, length)

pub taken_within : (capability : Capability) (base : Endpoint) (num_bis room : ℕ) (wishes : List Wish) (subgroups : List Subgroup)
    → sets_with 0 (first_candidates capability base num_bis room wishes subgroups) < 2 ^ num_bis
taken_within capability base num_bis room wishes subgroups = grind (arith, sets_within, first_candidates, first_within, pow_pos)
