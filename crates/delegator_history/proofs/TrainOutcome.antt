-- What a train carries that synchronizes a sink to a BIG.
use Rattle.delegator_history.proofs.Prelude.{◌≡◌, ◌≤◌, ℕ, Bool, false, cond, eqb, List, Option, Some, None, Result, Ok, Err, refl, arith, ◌==◌, length, map, eqb-false, none-some, same_Some, BaseFault, Endpoint, Wish, BigFault, BigInfo, Capability, Snapshot, entry_at, is_on_group, wishes_at, TrainOutcome, Setup, heard, ignored, taken, base_in, big_info_in, outcome_by, by_base, by_big_info, by_broadcast_id, by_endpoint, BigSync, are_none, by_group, by_info, by_slot, by_streams, first_candidates, is_elsewhere, is_wanted, big_sync_in, big_sync_of, set_with, sets_with}
use Rattle.base_grammar.specs.AdReading.{broadcast_id_of}
use Rattle.base_grammar.specs.Reading.{base_of}
use Rattle.big_info.specs.declared.fault.GroupFault.{GroupFault}
use Rattle.big_info.specs.Reading.{info_of}
use Rattle.big_info.specs.Rows.{first_fault}
use Rattle.delegator_history.specs.declared.train_heard.TrainHeard.{TrainHeard}
use Rattle.delegator_history.specs.declared.train_heard.TrainHeard.TheVariants as answers
use Rattle.delegator_history.specs.Trains.{Train}
use Rattle.delegator_history.specs.Writes.{slot_where}
use Rattle.delegator_history.proofs.Citable.{none_set}

-- a BASE, a BIGInfo of which no row of the group check holds, and some streams that are taken
pub record Carries (horizon : ℕ) (train : Train) (big_sync : BigSync) : Type 0 where
  pub base_octets : List ℕ
  pub base_found : base_in train.adv ≡ Some base_octets
  pub base : Endpoint
  pub base_read : base_of base_octets ≡ Ok base
  pub info_octets : List ℕ
  pub info_found : big_info_in train.acad ≡ Some info_octets
  pub info : BigInfo
  pub info_read : info_of info_octets ≡ Ok info
  pub sound : first_fault horizon info ≡ None
  pub capability : Capability
  pub room : ℕ
  pub wishes : List Wish
  pub some : 1 ≤ sets_with 0 (first_candidates capability base info.num_bis room wishes base.subgroups)
  pub big_sync_is : big_sync_of train base info (sets_with 0 (first_candidates capability base info.num_bis room wishes base.subgroups)) ≡ big_sync

-- ---- answer by answer

not_empty : (which : ℕ) → eqb which 0 ≡ false → 1 ≤ which
not_empty which is = let some : which ≡ 0 → ⊥ = eqb-false which 0 is in omega (arith, some)

put : (none : Bool) (slot : ℕ) (answer : TrainHeard) (encrypted : Option Bool) (bits : List ℕ) (coded : Bool) (on big_sync : BigSync)
    → big_sync_in (cond none (heard slot answer encrypted) (taken slot bits coded on)) ≡ Some big_sync → (none ≡ false) × (on ≡ big_sync)
put none slot answer encrypted bits coded on big_sync is = grind (arith, none-some, same_Some)

by_streams_put : (slot : ℕ) (train : Train) (base : Endpoint) (info : BigInfo) (encrypted : Bool) (streams : List (List ℕ)) (big_sync : BigSync)
    → big_sync_in (by_streams slot train base info encrypted streams) ≡ Some big_sync → (1 ≤ sets_with 0 streams) × (big_sync_of train base info (sets_with 0 streams) ≡ big_sync)
by_streams_put slot train base info encrypted streams big_sync is =
    grind (arith, put, are_none, map, set_with, big_sync_of, sets_with, not_empty, none_set)

by_group_put : (setup : Setup) (capability : Capability) (wishes : List Wish) (slot : ℕ) (train : Train) (base : Endpoint) (info : BigInfo) (encrypted : Bool)
    (fault : Option GroupFault) (big_sync : BigSync) → big_sync_in (by_group setup capability wishes slot train base info encrypted fault) ≡ Some big_sync
    → (fault ≡ None)
    × (big_sync_in (by_streams slot train base info encrypted (first_candidates capability base info.num_bis setup.streams wishes base.subgroups)) ≡ Some big_sync)
by_group_put setup capability wishes slot train base info encrypted fault big_sync is = grind (arith, none-some)

by_info_put : (setup : Setup) (capability : Capability) (wishes : List Wish) (slot : ℕ) (train : Train) (base : Endpoint) (encrypted : Bool)
    (read : Result BigInfo BigFault) (big_sync : BigSync) → big_sync_in (by_info setup capability wishes slot train base encrypted read) ≡ Some big_sync
    → (info : BigInfo) × (read ≡ Ok info)
    × (big_sync_in (by_group setup capability wishes slot train base info encrypted (first_fault setup.horizon info)) ≡ Some big_sync)
by_info_put setup capability wishes slot train base encrypted read big_sync is = grind (arith, none-some)

by_big_info_put : (setup : Setup) (capability : Capability) (wishes : List Wish) (slot : ℕ) (train : Train) (base : Endpoint) (found : Option (List ℕ)) (big_sync : BigSync)
    → big_sync_in (by_big_info setup capability wishes slot train base found) ≡ Some big_sync
    → (octets : List ℕ) × (encrypted : Bool) × (found ≡ Some octets) × (big_sync_in (by_info setup capability wishes slot train base encrypted (info_of octets)) ≡ Some big_sync)
by_big_info_put setup capability wishes slot train base (Some octets) big_sync is = (octets, (length octets == 57), refl, is)
by_big_info_put setup capability wishes slot train base None big_sync is = absurd (none-some big_sync is)

by_endpoint_put : (setup : Setup) (capability : Capability) (wishes : List Wish) (slot : ℕ) (train : Train) (read : Result Endpoint BaseFault) (big_sync : BigSync)
    → big_sync_in (by_endpoint setup capability wishes slot train read) ≡ Some big_sync
    → (base : Endpoint) × (read ≡ Ok base) × (big_sync_in (by_big_info setup capability wishes slot train base (big_info_in train.acad)) ≡ Some big_sync)
by_endpoint_put setup capability wishes slot train (Ok base) big_sync is = (base, refl, is)
by_endpoint_put setup capability wishes slot train (Err fault) big_sync is = absurd (none-some big_sync is)

by_base_put : (setup : Setup) (capability : Capability) (wishes : List Wish) (slot : ℕ) (train : Train) (found : Option (List ℕ)) (big_sync : BigSync)
    → big_sync_in (by_base setup capability wishes slot train found) ≡ Some big_sync
    → (octets : List ℕ) × (found ≡ Some octets) × (big_sync_in (by_endpoint setup capability wishes slot train (base_of octets)) ≡ Some big_sync)
by_base_put setup capability wishes slot train (Some octets) big_sync is = (octets, refl, is)
by_base_put setup capability wishes slot train None big_sync is = absurd (none-some big_sync is)

-- the sink is neither elsewhere nor on the group already
here : (elsewhere already : Bool) (one other : TrainHeard) (outcome : TrainOutcome) (big_sync : BigSync)
    → big_sync_in (cond elsewhere (ignored one) (cond already (ignored other) outcome)) ≡ Some big_sync → big_sync_in outcome ≡ Some big_sync
here elsewhere already one other outcome big_sync is = grind (arith, none-some)

by_slot_put : (setup : Setup) (snapshot : Snapshot) (train : Train) (slot : Option ℕ) (big_sync : BigSync) → big_sync_in (by_slot setup snapshot train slot) ≡ Some big_sync
    → (at : ℕ) × (big_sync_in (by_base setup snapshot.capability (wishes_at (entry_at snapshot.slots at)) at train (base_in train.adv)) ≡ Some big_sync)
by_slot_put setup snapshot train (Some slot) big_sync is = (
  slot,
  here (is_elsewhere snapshot.place slot) (is_on_group snapshot.place slot) answers.OtherTrain answers.AlreadyOnGroup
      (by_base setup snapshot.capability (wishes_at (entry_at snapshot.slots slot)) slot train (base_in train.adv)) big_sync is,
)
by_slot_put setup snapshot train None big_sync is = absurd (none-some big_sync is)

by_broadcast_id_put : (setup : Setup) (snapshot : Snapshot) (train : Train) (id : Option (List ℕ)) (big_sync : BigSync) → big_sync_in (by_broadcast_id setup snapshot train id) ≡ Some big_sync
    → (slot : Option ℕ) × (big_sync_in (by_slot setup snapshot train slot) ≡ Some big_sync)
by_broadcast_id_put setup snapshot train (Some id) big_sync is = (slot_where (is_wanted train.address_type train.sid id) 0 snapshot.slots, is)
by_broadcast_id_put setup snapshot train None big_sync is = absurd (none-some big_sync is)

-- ---- together

pub what_is_carried : (setup : Setup) (snapshot : Snapshot) (train : Train) (big_sync : BigSync) → big_sync_in (outcome_by setup snapshot train) ≡ Some big_sync
    → Carries setup.horizon train big_sync
what_is_carried setup snapshot train big_sync is =
    let wanted = by_broadcast_id_put setup snapshot train (broadcast_id_of train.ext) big_sync is in
    let at = by_slot_put setup snapshot train wanted.0 big_sync wanted.1 in
    let wishes : List Wish = wishes_at (entry_at snapshot.slots at.0) in
    let adv = by_base_put setup snapshot.capability wishes at.0 train (base_in train.adv) big_sync at.1 in
    let base = by_endpoint_put setup snapshot.capability wishes at.0 train (base_of adv.0) big_sync adv.2 in
    let acad = by_big_info_put setup snapshot.capability wishes at.0 train base.0 (big_info_in train.acad) big_sync base.2 in
    let info = by_info_put setup snapshot.capability wishes at.0 train base.0 acad.1 (info_of acad.0) big_sync acad.3 in
    let group = by_group_put setup snapshot.capability wishes at.0 train base.0 info.0 acad.1 (first_fault setup.horizon info.0) big_sync info.2 in
    let streams = by_streams_put at.0 train base.0 info.0 acad.1 (first_candidates snapshot.capability base.0 info.0.num_bis setup.streams wishes base.0.subgroups) big_sync group.1 in
    record {
      base_octets = adv.0;
      base_found = adv.1;
      base = base.0;
      base_read = base.1;
      info_octets = acad.0;
      info_found = acad.2;
      info = info.0;
      info_read = info.1;
      sound = group.0;
      capability = snapshot.capability;
      room = setup.streams;
      wishes = wishes;
      some = streams.0;
      big_sync_is = streams.1;
    }
