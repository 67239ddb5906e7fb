-- A train that is followed is of a slot of the sink, which is on no other train or group.
use Rattle.delegator_control.proofs.Prelude.{ℕ, ◌≡◌, ◌≢◌, ◌-◌, ◌<◌, Bool, true, false, List, [], ◌++◌, length, get_or, map, Option, Some, None, Result, refl, sym, ap, ◌∙◌, arith, ◌==◌, ◌&&◌, not, option_map, is_some, if◌then◌else◌, cond-true, cond-false, eq-eqb, eqb-true, ne_eqb, not-false, BaseFault, Endpoint, base_of, Wish, BigFault, GroupFault, BigInfo, info_of, first_fault, Capability, change, changes, Entry, Place, idle, on_train, on_group, Snapshot, is_on, is_on_group, entry_at, Done, after, wishes_at, Setup, Train, TrainOutcome, ignored, heard, taken, base_in, big_info_in, first_candidates, is_elsewhere, is_wanted, big_sync_of, set_with, sets_with, are_none, by_base, by_big_info, by_broadcast_id, by_endpoint, by_group, by_info, by_slot, by_streams, outcome_by, Status, received, status_of, value, value_at, slot_where, one_changes, found, Machine, moved}
use Rattle.base_grammar.specs.AdReading.{broadcast_id_of}
use Rattle.delegator_history.specs.declared.train_heard.TrainHeard.TheVariants as answers
use Rattle.delegator_control.proofs.Changes.{elsewhere}

-- ---- the slot of what a train brings

abbrev pub slot_of_outcome : TrainOutcome → Option ℕ
slot_of_outcome (ignored answer) = None
slot_of_outcome (heard slot answer encrypted) = Some slot
slot_of_outcome (taken slot bits encrypted big_sync) = Some slot

of_choice : (b : Bool) (one other : TrainOutcome) (slot : ℕ) → slot_of_outcome one ≡ Some slot → slot_of_outcome other ≡ Some slot → slot_of_outcome (if b then one else other) ≡ Some slot
of_choice b one other slot p q = grind arith

-- ---- the answer by the streams

pub by_none : (slot : ℕ) (train : Train) (base : Endpoint) (info : BigInfo) (encrypted : Bool) (streams : List (List ℕ)) → are_none streams ≡ true
    → by_streams slot train base info encrypted streams ≡ heard slot answers.NoneTaken (Some encrypted)
by_none slot train base info encrypted streams none =
    grind (arith, cond-true, are_none, heard, taken, map, set_with, big_sync_of, sets_with)

pub by_some : (slot : ℕ) (train : Train) (base : Endpoint) (info : BigInfo) (encrypted : Bool) (streams : List (List ℕ)) → are_none streams ≡ false
    → by_streams slot train base info encrypted streams ≡ taken slot (map (set_with 0) streams) encrypted (big_sync_of train base info (sets_with 0 streams))
by_some slot train base info encrypted streams some =
    grind (arith, cond-false, are_none, heard, taken, map, set_with, big_sync_of, sets_with)

-- ---- the stages keep the slot

of_group : (setup : Setup) (capability : Capability) (wishes : List Wish) (slot : ℕ) (train : Train) (base : Endpoint) (info : BigInfo) (encrypted : Bool) (fault : Option GroupFault)
    → slot_of_outcome (by_group setup capability wishes slot train base info encrypted fault) ≡ Some slot
of_group setup capability wishes slot train base info encrypted fault = grind (arith, of_choice, are_none, first_candidates)

of_info : (setup : Setup) (capability : Capability) (wishes : List Wish) (slot : ℕ) (train : Train) (base : Endpoint) (encrypted : Bool) (info : Result BigInfo BigFault)
    → slot_of_outcome (by_info setup capability wishes slot train base encrypted info) ≡ Some slot
of_info setup capability wishes slot train base encrypted info = grind (arith, of_group, first_fault)

of_big_info : (setup : Setup) (capability : Capability) (wishes : List Wish) (slot : ℕ) (train : Train) (base : Endpoint) (octets : Option (List ℕ))
    → slot_of_outcome (by_big_info setup capability wishes slot train base octets) ≡ Some slot
of_big_info setup capability wishes slot train base octets = grind (arith, of_info, length, info_of)

of_endpoint : (setup : Setup) (capability : Capability) (wishes : List Wish) (slot : ℕ) (train : Train) (base : Result Endpoint BaseFault)
    → slot_of_outcome (by_endpoint setup capability wishes slot train base) ≡ Some slot
of_endpoint setup capability wishes slot train base = grind (arith, of_big_info, big_info_in)

of_base : (setup : Setup) (capability : Capability) (wishes : List Wish) (slot : ℕ) (train : Train) (octets : Option (List ℕ))
    → slot_of_outcome (by_base setup capability wishes slot train octets) ≡ Some slot
of_base setup capability wishes slot train octets = grind (arith, of_endpoint, base_of)

-- ---- a slot of the sink, which is on no other train or group

pub record IsNear (slot : ℕ) (snapshot : Snapshot) : Type 0 where
  pub within : slot < length snapshot.slots
  pub near : is_elsewhere snapshot.place slot ≡ false

near_at : (setup : Setup) (snapshot : Snapshot) (train : Train) (other slot : ℕ) (b : Bool) → is_elsewhere snapshot.place other ≡ b → other < length snapshot.slots
    → slot_of_outcome (if b then ignored answers.OtherTrain else (if is_on_group snapshot.place other then ignored answers.AlreadyOnGroup
    else by_base setup snapshot.capability (wishes_at (entry_at snapshot.slots other)) other train (base_in train.adv))) ≡ Some slot
    → IsNear slot snapshot
near_at setup snapshot train other slot b away within is = grind (arith, of_base, wishes_at, entry_at, base_in, is_on_group)

near_slot : (setup : Setup) (snapshot : Snapshot) (train : Train) (slot : ℕ) (test : Option Entry → Bool) (place : Option ℕ) → slot_where test 0 snapshot.slots ≡ place
    → slot_of_outcome (by_slot setup snapshot train place) ≡ Some slot → IsNear slot snapshot
near_slot setup snapshot train slot test None at is = absurd cc
near_slot setup snapshot train slot test (Some other) at is =
    near_at setup snapshot train other slot (is_elsewhere snapshot.place other) refl (omega (arith, (found test 0 snapshot.slots other at).within)) is

near_id : (setup : Setup) (snapshot : Snapshot) (train : Train) (slot : ℕ) (id : Option (List ℕ)) → slot_of_outcome (by_broadcast_id setup snapshot train id) ≡ Some slot → IsNear slot snapshot
near_id setup snapshot train slot None is = absurd cc
near_id setup snapshot train slot (Some id) is =
    near_slot setup snapshot train slot (is_wanted train.address_type train.sid id) (slot_where (is_wanted train.address_type train.sid id) 0 snapshot.slots) refl is

pub is_near : (setup : Setup) (snapshot : Snapshot) (train : Train) (slot : ℕ) → slot_of_outcome (outcome_by setup snapshot train) ≡ Some slot → IsNear slot snapshot
is_near setup snapshot train slot is = near_id setup snapshot train slot (broadcast_id_of train.ext) is

-- a slot that wants the train is filled
pub wanted_filled : (address_type sid : ℕ) (id : List ℕ) (entry : Option Entry) → is_wanted address_type sid id entry ≡ true → is_some entry ≡ true
wanted_filled address_type sid id entry is = grind arith

pub found_filled : (address_type sid : ℕ) (id : List ℕ) (slots : List (Option Entry)) (slot : ℕ) → slot_where (is_wanted address_type sid id) 0 slots ≡ Some slot → is_some (entry_at slots slot) ≡ true
found_filled address_type sid id slots slot is =
    let all : slot - 0 ≡ slot = omega arith in
    wanted_filled address_type sid id (entry_at slots slot)
    (ap (λ k. is_wanted address_type sid id (get_or slots k None)) (sym all) ∙ (found (is_wanted address_type sid id) 0 slots slot is).meets)

-- ---- the notice of the slot

off_other : (place : Place) (slot i : ℕ) → is_elsewhere place slot ≡ false → i ≢ slot → is_on place i ≡ false
off_other idle slot i near other = refl
off_other (on_train s) slot i near other = ne_eqb s i (λ same. other (sym same ∙ eqb-true s slot (not-false (s == slot) near)))
off_other (on_group None) slot i near other = refl
off_other (on_group (Some s)) slot i near other = ne_eqb s i (λ same. other (sym same ∙ eqb-true s slot (not-false (s == slot) near)))

pub same_slot : (slot : ℕ) → (slot == slot) ≡ true
same_slot slot = eq-eqb slot slot refl

pub near_itself : (slot : ℕ) → not (slot == slot) ≡ false
near_itself slot = ap not (same_slot slot)

-- ---- how the sink then stands to the slot

pub train_status : (slot : ℕ) (encrypted : Bool) → ◌≡◌ {A = Status} (record { is_synced = true; is_encrypted = encrypted; bits = [] }) (status_of (on_train slot) encrypted [] slot)
train_status slot encrypted = λ i. record { is_synced = sym (same_slot slot) i; is_encrypted = sym (same_slot slot) i && encrypted; bits = [] }

pub group_status : (slot : ℕ) (encrypted : Bool) (streams : List ℕ)
    → ◌≡◌ {A = Status} (record { is_synced = true; is_encrypted = encrypted; bits = streams }) (status_of (on_group (Some slot)) encrypted streams slot)
group_status slot encrypted streams = grind (arith, same_slot)

-- a sink whose notice was put, and that then stands there
abbrev pub stands_at : Snapshot → Place → Bool → List ℕ → Snapshot
stands_at snapshot place encrypted streams = record snapshot { place = place; encrypted = encrypted; taken = streams }

pub went_to : (m mid now : Machine) (slot : ℕ) (place : Place) (encrypted : Bool) (streams : List ℕ) (done : Done) (status : Status)
    → slot < m.setup.slots → is_elsewhere m.snapshot.place slot ≡ false → is_elsewhere place slot ≡ false
    → mid ≡ record m { waiting = m.waiting ++ change slot (value_at m.snapshot slot) (value (option_map (received status) (entry_at m.snapshot.slots slot))) }
    → now ≡ record mid { snapshot = stands_at mid.snapshot place encrypted streams }
    → stands_at m.snapshot place encrypted streams ≡ after done m.snapshot → status ≡ status_of place encrypted streams slot
    → now ≡ moved done m
went_to m mid now slot place encrypted streams done status within near near_now noted is does stands =
    grind (arith, change, value_at, value, option_map, received, entry_at, changes, one_changes, elsewhere, off_other)
