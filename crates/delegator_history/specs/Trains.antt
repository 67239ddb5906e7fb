-- What a train is answered that is heard, and what it does (Basic Audio Profile 1.0, sections 3.7.2 and 6.5). The order of
-- the answers, and which streams are taken first, are this project's own.
use Rattle.std.specs.Prelude.{ℕ, ◌+◌, ◌-◌, ◌*◌, ◌/◌, ◌^◌, ◌==◌, ◌&&◌, not, Bool, false, List, [], ◌∷◌, length, map, take, bit_or, Option, Some, None, is_none, nat_le, Result, Ok, Err, if◌then◌else◌}
use Rattle.std.specs.Int.{bit_at}
use Rattle.std.specs.List.{concat, filter, range_with_len}
use Rattle.base_grammar.specs.declared.fault.BaseFault.{BaseFault}
use Rattle.base_grammar.specs.declared.subgroup.Subgroup.{Subgroup}
use Rattle.base_grammar.specs.Ad.{first_service}
use Rattle.base_grammar.specs.AdReading.{ads_of, broadcast_id_of}
use Rattle.base_grammar.specs.Layout.{Endpoint, bis_of, stands_in}
use Rattle.base_grammar.specs.Reading.{base_of}
use Rattle.bass_operations.specs.declared.wishes.Wish.{Wish}
use Rattle.big_info.specs.declared.big_fault.BigFault.{BigFault}
use Rattle.big_info.specs.declared.fault.GroupFault.{GroupFault}
use Rattle.big_info.specs.declared.info.BigInfo.{BigInfo}
use Rattle.big_info.specs.Reading.{info_of}
use Rattle.big_info.specs.Rows.{first_fault}
use Rattle.ltv_codec.specs.declared.ltvs.Ltv.{Ltv}
use Rattle.ltv_codec.specs.Values.{first_of}
use Rattle.pacs_records.specs.declared.capability.Capability.{Capability}
use Rattle.pacs_records.specs.Reasons.{stream_not_taken}
use Rattle.sync_reference.specs.BigSync.{BigSync}
use Rattle.delegator_history.specs.declared.train_heard.TrainHeard.{TrainHeard}
use Rattle.delegator_history.specs.declared.train_heard.TrainHeard.TheVariants as answers
use Rattle.delegator_history.specs.Snapshots.{Entry, Place, Snapshot, idle, on_train, on_group, is_on_group, entry_at}
use Rattle.delegator_history.specs.Steps.{Done, nothing, followed, joined, wishes_at}
use Rattle.delegator_history.specs.Writes.{has, has_source, slot_where}

-- what is heard of a train: the data of the extended and of the periodic advertising, its ACAD, and the time in µs
pub record Train : Type 0 where
  pub address_type : ℕ
  pub sid : ℕ
  pub ext : List ℕ
  pub adv : List ℕ
  pub acad : List ℕ
  pub now : ℕ

-- the limits of a sink: the streams that it takes at once, its slots, and the greatest horizon of a group
pub record Setup : Type 0 where
  pub streams : ℕ
  pub slots : ℕ
  pub horizon : ℕ

pub record Settings : Type 0 where
  pub setup : Setup
  pub mtu : Option ℕ

pub data TrainOutcome : Type 0 where
  ignored : (answer : TrainHeard) → TrainOutcome  -- one of the first four answers
  heard : (slot : ℕ) (answer : TrainHeard) (encrypted : Option Bool) → TrainOutcome  -- NoBase to NoneTaken
  taken : (slot : ℕ) (bits : List ℕ) (encrypted : Bool) (big_sync : BigSync) → TrainOutcome  -- OnGroup

-- ---- the streams that are taken

-- a stream of the subgroup that is wanted by these bits, is one of the group, and is taken by capability
abbrev pub is_candidate : Capability → Endpoint → ℕ → ℕ → Subgroup → ℕ → Bool
is_candidate capability base num_bis bits subgroup bis =
    stands_in (map bis_of subgroup.entries) bis && ((bit_at bits (bis - 1) == 1) && (nat_le bis num_bis && is_none (stream_not_taken capability base bis)))

abbrev pub candidates : Capability → Endpoint → ℕ → ℕ → Subgroup → List ℕ
candidates capability base num_bis bits subgroup = filter (is_candidate capability base num_bis bits subgroup) (range_with_len 1 31)

-- a set with these streams too: bit n stands for the index n + 1
abbrev pub set_with : ℕ → List ℕ → ℕ
set_with set [] = set
set_with set (bis ∷ streams) = set_with (bit_or set (2 ^ (bis - 1))) streams

abbrev pub sets_with : ℕ → List (List ℕ) → ℕ
sets_with set [] = set
sets_with set (streams ∷ others) = sets_with (set_with set streams) others

-- the candidates of the wanted subgroups in order, of each subgroup those that are among the first so many
abbrev pub first_candidates : Capability → Endpoint → ℕ → ℕ → List Wish → List Subgroup → List (List ℕ)
first_candidates capability base num_bis room (wish ∷ wishes) (subgroup ∷ subgroups) =
    let all = candidates capability base num_bis wish.bis_sync subgroup in
    take room all ∷ first_candidates capability base num_bis (room - length all) wishes subgroups
first_candidates capability base num_bis room wishes subgroups = []

abbrev pub are_none : List (List ℕ) → Bool
are_none lists = length (concat lists) == 0

-- ---- the parts of a train

abbrev pub found_in : {A : Type 0} → (List Ltv → Option A) → Result (List Ltv) ℕ → Option A
found_in find (Ok ads) = find ads
found_in find (Err place) = None

-- the Service Data of the Basic Audio Announcement Service
abbrev pub base_in : List ℕ → Option (List ℕ)
base_in adv = found_in (first_service 0x1851) (ads_of adv)

abbrev pub big_info_in : List ℕ → Option (List ℕ)
big_info_in acad = found_in (first_of 0x2C) (ads_of acad)

-- BIG_Offset is in units of 30 or 300 µs
abbrev pub offset_of : BigInfo → ℕ
offset_of info = info.big_offset * (if info.big_offset_units == 1 then 300 else 30)

abbrev pub big_sync_of : Train → Endpoint → BigInfo → ℕ → BigSync
big_sync_of train base info which = record {
  info = info;
  which = which;
  first = info.bis_payload_count / info.bn;
  anchor = train.now + offset_of info;
  delay = base.delay;
}

-- ---- the answers, each behind those before it

-- a sink takes one stream at least, so there is no candidate exactly where no stream is among the first
abbrev pub by_streams : ℕ → Train → Endpoint → BigInfo → Bool → List (List ℕ) → TrainOutcome
by_streams slot train base info encrypted streams = if are_none streams then heard slot answers.NoneTaken (Some encrypted)
    else taken slot (map (set_with 0) streams) encrypted (big_sync_of train base info (sets_with 0 streams))

abbrev pub by_group : Setup → Capability → List Wish → ℕ → Train → Endpoint → BigInfo → Bool → Option GroupFault → TrainOutcome
by_group setup capability wishes slot train base info encrypted (Some fault) = heard slot (answers.BadGroup fault) (Some encrypted)
by_group setup capability wishes slot train base info encrypted None =
    by_streams slot train base info encrypted (first_candidates capability base info.num_bis setup.streams wishes base.subgroups)

abbrev pub by_info : Setup → Capability → List Wish → ℕ → Train → Endpoint → Bool → Result BigInfo BigFault → TrainOutcome
by_info setup capability wishes slot train base encrypted (Err fault) = heard slot answers.BadBigInfo None
by_info setup capability wishes slot train base encrypted (Ok info) = by_group setup capability wishes slot train base info encrypted (first_fault setup.horizon info)

abbrev pub by_big_info : Setup → Capability → List Wish → ℕ → Train → Endpoint → Option (List ℕ) → TrainOutcome
by_big_info setup capability wishes slot train base None = heard slot answers.NoBigInfo None
by_big_info setup capability wishes slot train base (Some octets) = by_info setup capability wishes slot train base (length octets == 57) (info_of octets)

abbrev pub by_endpoint : Setup → Capability → List Wish → ℕ → Train → Result Endpoint BaseFault → TrainOutcome
by_endpoint setup capability wishes slot train (Err fault) = heard slot answers.BadBase None
by_endpoint setup capability wishes slot train (Ok base) = by_big_info setup capability wishes slot train base (big_info_in train.acad)

abbrev pub by_base : Setup → Capability → List Wish → ℕ → Train → Option (List ℕ) → TrainOutcome
by_base setup capability wishes slot train None = heard slot answers.NoBase None
by_base setup capability wishes slot train (Some octets) = by_endpoint setup capability wishes slot train (base_of octets)

abbrev pub is_elsewhere : Place → ℕ → Bool
is_elsewhere idle slot = false
is_elsewhere (on_train other) slot = not (other == slot)
is_elsewhere (on_group other) slot = not (is_on_group (on_group other) slot)

abbrev pub by_slot : Setup → Snapshot → Train → Option ℕ → TrainOutcome
by_slot setup snapshot train None = ignored answers.NotWanted
by_slot setup snapshot train (Some slot) = if is_elsewhere snapshot.place slot then ignored answers.OtherTrain
    else (if is_on_group snapshot.place slot then ignored answers.AlreadyOnGroup
    else by_base setup snapshot.capability (wishes_at (entry_at snapshot.slots slot)) slot train (base_in train.adv))

abbrev pub is_wanted : ℕ → ℕ → List ℕ → Option Entry → Bool
is_wanted address_type sid broadcast_id slot = has_source address_type sid broadcast_id slot && has (λ entry. not (entry.wanted.pa_sync == 0)) slot

abbrev pub by_broadcast_id : Setup → Snapshot → Train → Option (List ℕ) → TrainOutcome
by_broadcast_id setup snapshot train None = ignored answers.NoBroadcastId
by_broadcast_id setup snapshot train (Some id) = by_slot setup snapshot train (slot_where (is_wanted train.address_type train.sid id) 0 snapshot.slots)

abbrev pub outcome_by : Setup → Snapshot → Train → TrainOutcome
outcome_by setup snapshot train = by_broadcast_id setup snapshot train (broadcast_id_of train.ext)

abbrev pub big_sync_in : TrainOutcome → Option BigSync
big_sync_in (taken slot bits encrypted big_sync) = Some big_sync
big_sync_in _ = None

abbrev pub answer_of : TrainOutcome → TrainHeard
answer_of (ignored answer) = answer
answer_of (heard slot answer encrypted) = answer
answer_of (taken slot bits encrypted big_sync) = answers.OnGroup big_sync.which

abbrev pub done_by_outcome : TrainOutcome → Done
done_by_outcome (ignored answer) = nothing
done_by_outcome (heard slot answer encrypted) = followed slot encrypted
done_by_outcome (taken slot bits encrypted big_sync) = joined slot encrypted bits
