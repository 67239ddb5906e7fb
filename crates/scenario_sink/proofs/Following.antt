-- A train synchronizes a sink to itself or to its BIG exactly where it gets none of the first four answers.
use Rattle.scenario_sink.proofs.Prelude.{ℕ, ◌≡◌, Bool, List, Option, Some, None, Result, refl, if◌then◌else◌, Snapshot, entry_at, is_on_group, wishes_at, TrainOutcome, ignored, heard, taken, Setup, Train, answer_of, are_none, base_in, big_info_in, outcome_by, by_base, by_big_info, by_group, by_info, by_slot, first_candidates, is_elsewhere, is_wanted, slot_where, follows, is_followed, arith}
use Rattle.base_grammar.specs.Layout.{Endpoint}
use Rattle.bass_operations.specs.declared.wishes.Wish.{Wish}
use Rattle.big_info.specs.declared.big_fault.BigFault.{BigFault}
use Rattle.big_info.specs.declared.fault.GroupFault.{GroupFault}
use Rattle.big_info.specs.declared.info.BigInfo.{BigInfo}
use Rattle.delegator_history.specs.declared.train_heard.TrainHeard.TheVariants as answers
use Rattle.pacs_records.specs.declared.capability.Capability.{Capability}

-- what a train brings is followed as its answer says
abbrev IsTold : TrainOutcome → Type 0
IsTold outcome = is_followed (answer_of outcome) ≡ follows outcome

by_if : (b : Bool) (one other : TrainOutcome) → IsTold one → IsTold other → IsTold (if b then one else other)
by_if b one other is also = grind arith

group_told : (setup : Setup) (capability : Capability) (wishes : List Wish) (slot : ℕ) (train : Train) (base : Endpoint) (info : BigInfo) (encrypted : Bool)
    (fault : Option GroupFault) → IsTold (by_group setup capability wishes slot train base info encrypted fault)
group_told setup capability wishes slot train base info encrypted fault = grind (arith, by_if, are_none, heard, taken, first_candidates)

info_told : (setup : Setup) (capability : Capability) (wishes : List Wish) (slot : ℕ) (train : Train) (base : Endpoint) (encrypted : Bool) (info : Result BigInfo BigFault)
    → IsTold (by_info setup capability wishes slot train base encrypted info)
info_told setup capability wishes slot train base encrypted info = grind (arith, group_told)

big_info_told : (setup : Setup) (capability : Capability) (wishes : List Wish) (slot : ℕ) (train : Train) (base : Endpoint) (octets : Option (List ℕ))
    → IsTold (by_big_info setup capability wishes slot train base octets)
big_info_told setup capability wishes slot train base octets = grind (arith, info_told)

base_told : (setup : Setup) (capability : Capability) (wishes : List Wish) (slot : ℕ) (train : Train) (octets : Option (List ℕ))
    → IsTold (by_base setup capability wishes slot train octets)
base_told setup capability wishes slot train octets = grind (arith, big_info_told, big_info_in)

slot_told : (setup : Setup) (snapshot : Snapshot) (train : Train) (slot : Option ℕ) → IsTold (by_slot setup snapshot train slot)
slot_told setup snapshot train None = refl
slot_told setup snapshot train (Some slot) =
    let more : TrainOutcome = by_base setup snapshot.capability (wishes_at (entry_at snapshot.slots slot)) slot train (base_in train.adv) in
    by_if (is_elsewhere snapshot.place slot) (ignored answers.OtherTrain) (if is_on_group snapshot.place slot then ignored answers.AlreadyOnGroup else more) refl
    (by_if (is_on_group snapshot.place slot) (ignored answers.AlreadyOnGroup) more refl
    (base_told setup snapshot.capability (wishes_at (entry_at snapshot.slots slot)) slot train (base_in train.adv)))

pub followed_is : (setup : Setup) (snapshot : Snapshot) (train : Train) → is_followed (answer_of (outcome_by setup snapshot train)) ≡ follows (outcome_by setup snapshot train)
followed_is setup snapshot train = grind (arith, slot_told, slot_where, is_wanted)
