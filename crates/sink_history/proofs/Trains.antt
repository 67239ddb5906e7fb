-- The streams that a train puts a sink on are sets of streams.
use Rattle.sink_history.proofs.Prelude.{ℕ, zero, suc, ◌+◌, ◌-◌, ◌<◌, ◌≤◌, ◌^◌, Bool, List, [], ◌∷◌, length, map, take, Option, Some, None, Result, arith, bit_or, if◌then◌else◌, AllByRecursion, filter, range_with_len, Wish, Snapshot, is_on_group, TrainOutcome, ignored, heard, taken, Setup, Train, is_candidate, candidates, set_with, sets_with, first_candidates, are_none, base_in, big_info_in, big_sync_of, by_streams, by_group, by_info, by_big_info, by_base, by_slot, by_broadcast_id, outcome_by, done_by_outcome, is_elsewhere, is_wanted}
use Rattle.std.proofs.lemmas.Nat.{or_lt, pow_below}
use Rattle.base_grammar.specs.declared.subgroup.Subgroup.{Subgroup}
use Rattle.base_grammar.specs.Layout.{Endpoint}
use Rattle.big_info.specs.declared.big_fault.BigFault.{BigFault}
use Rattle.big_info.specs.declared.fault.GroupFault.{GroupFault}
use Rattle.big_info.specs.declared.info.BigInfo.{BigInfo}
use Rattle.base_grammar.specs.AdReading.{broadcast_id_of}
use Rattle.pacs_records.specs.declared.capability.Capability.{Capability}
use Rattle.sink_history.proofs.Fitting.{AreSets, DoneIs}

-- ---- sets of streams

abbrev BisIs : ℕ → Type 0
BisIs bis = (1 ≤ bis) × (bis ≤ 31)

range_is : (start n : ℕ) → 1 ≤ start → start + n ≤ 32 → AllByRecursion BisIs (range_with_len start n)
range_is start zero least most = tt
range_is start (suc n) least most = ((least, omega (arith, most)), range_is (start + 1) n (omega arith) (omega (arith, most)))

kept_is : (b : Bool) (bis : ℕ) (others : List ℕ) → BisIs bis → AllByRecursion BisIs others → AllByRecursion BisIs (if b then bis ∷ others else others)
kept_is b bis others is are = grind arith

filtered_is : (test : ℕ → Bool) (streams : List ℕ) → AllByRecursion BisIs streams → AllByRecursion BisIs (filter test streams)
filtered_is test [] are = tt
filtered_is test (bis ∷ streams) are = kept_is (test bis) bis (filter test streams) are.0 (filtered_is test streams are.1)

prefix_is : (n : ℕ) (streams : List ℕ) → AllByRecursion BisIs streams → AllByRecursion BisIs (take n streams)
prefix_is (suc n) (bis ∷ streams) are = (are.0, prefix_is n streams are.1)
prefix_is n streams are = search

bit_small : (bis : ℕ) → BisIs bis → 2 ^ (bis - 1) < 2 ^ 31
bit_small bis is = pow_below (bis - 1) 31 (omega (arith, is.0, is.1))

set_small : (set : ℕ) (streams : List ℕ) → set < 2 ^ 31 → AllByRecursion BisIs streams → set_with set streams < 2 ^ 31
set_small set [] small are = small
set_small set (bis ∷ streams) small are = set_small (bit_or set (2 ^ (bis - 1))) streams (or_lt 31 set (2 ^ (bis - 1)) small (bit_small bis are.0)) are.1

sets_are : (streams : List (List ℕ)) → AllByRecursion (λ some. AllByRecursion BisIs some) streams → AreSets (map (set_with 0) streams)
sets_are [] are = tt
sets_are (some ∷ streams) are = (set_small 0 some (omega arith) are.0, sets_are streams are.1)

candidates_are : (capability : Capability) (base : Endpoint) (num_bis room : ℕ) (wishes : List Wish) (subgroups : List Subgroup)
    → AllByRecursion (λ some. AllByRecursion BisIs some) (first_candidates capability base num_bis room wishes subgroups)
candidates_are capability base num_bis room [] subgroups = tt
candidates_are capability base num_bis room (wish ∷ wishes) [] = tt
candidates_are capability base num_bis room (wish ∷ wishes) (subgroup ∷ subgroups) =
    let all : List ℕ = candidates capability base num_bis wish.bis_sync subgroup in (
      prefix_is room all
          (filtered_is (is_candidate capability base num_bis wish.bis_sync subgroup) (range_with_len 1 31) (range_is 1 31 (omega arith) (omega arith))),
      candidates_are capability base num_bis (room - length all) wishes subgroups,
    )

-- ---- what a train brings

abbrev OutcomeIs : TrainOutcome → Type 0
OutcomeIs (taken slot bits encrypted big_sync) = AreSets bits
OutcomeIs _ = Unit {0}

either_is : (b : Bool) (x y : TrainOutcome) → OutcomeIs x → OutcomeIs y → OutcomeIs (if b then x else y)
either_is b x y of_x of_y = grind arith

streams_are : (slot : ℕ) (train : Train) (base : Endpoint) (info : BigInfo) (encrypted : Bool) (streams : List (List ℕ))
    → AllByRecursion (λ some. AllByRecursion BisIs some) streams → OutcomeIs (by_streams slot train base info encrypted streams)
streams_are slot train base info encrypted streams are =
    grind (arith, either_is, are_none, heard, taken, map, set_with, big_sync_of, sets_with, sets_are)

group_is : (setup : Setup) (capability : Capability) (wishes : List Wish) (slot : ℕ) (train : Train) (base : Endpoint) (info : BigInfo) (encrypted : Bool)
    (fault : Option GroupFault) → OutcomeIs (by_group setup capability wishes slot train base info encrypted fault)
group_is setup capability wishes slot train base info encrypted (Some fault) = tt
group_is setup capability wishes slot train base info encrypted None =
    streams_are slot train base info encrypted (first_candidates capability base info.num_bis setup.streams wishes base.subgroups)
    (candidates_are capability base info.num_bis setup.streams wishes base.subgroups)

info_is : (setup : Setup) (capability : Capability) (wishes : List Wish) (slot : ℕ) (train : Train) (base : Endpoint) (encrypted : Bool)
    (read : Result BigInfo BigFault) → OutcomeIs (by_info setup capability wishes slot train base encrypted read)
info_is setup capability wishes slot train base encrypted read = grind (arith, group_is)

big_info_is : (setup : Setup) (capability : Capability) (wishes : List Wish) (slot : ℕ) (train : Train) (base : Endpoint) (found : Option (List ℕ))
    → OutcomeIs (by_big_info setup capability wishes slot train base found)
big_info_is setup capability wishes slot train base found = grind (arith, info_is, length)

base_is : (setup : Setup) (capability : Capability) (wishes : List Wish) (slot : ℕ) (train : Train) (found : Option (List ℕ))
    → OutcomeIs (by_base setup capability wishes slot train found)
base_is setup capability wishes slot train found = grind (arith, big_info_is, big_info_in)

slot_is : (setup : Setup) (snapshot : Snapshot) (train : Train) (found : Option ℕ) → OutcomeIs (by_slot setup snapshot train found)
slot_is setup snapshot train found = grind (arith, by_base, base_in, is_on_group, ignored, either_is, is_elsewhere, base_is)

id_is : (setup : Setup) (snapshot : Snapshot) (train : Train) (found : Option (List ℕ)) → OutcomeIs (by_broadcast_id setup snapshot train found)
id_is setup snapshot train found = grind (arith, slot_is, is_wanted)

done_is : (outcome : TrainOutcome) → OutcomeIs outcome → DoneIs (done_by_outcome outcome)
done_is outcome is = grind arith

pub train_is : (setup : Setup) (snapshot : Snapshot) (train : Train) → DoneIs (done_by_outcome (outcome_by setup snapshot train))
train_is setup snapshot train = done_is (outcome_by setup snapshot train) (id_is setup snapshot train (broadcast_id_of train.ext))
