-- The octets that a slot has as its value are read as its state.
use Rattle.sink_history.proofs.Prelude.{ℕ, zero, suc, ◌≡◌, ◌↔◌, ◌+◌, ◌<◌, ◌^◌, Bool, true, false, List, [], ◌∷◌, ◌++◌, length, map, drop, get_or, slice_get, Option, Some, None, option_map, Ok, refl, sym, ap, subst, arith, ◌==◌, ◌&&◌, not, if◌then◌else◌, AllByRecursion, flat_map, le-ltb, NoneReserved, laid, IsOctets, Fits, subgroup_fields, is_reserved, all_bits, Operation, Wish, OpIs, ReceiveState, reading_of, Entry, Snapshot, is_on_group, Step, record_added, locations_set, contexts_set, mtu_set, sync_to_group, written, train_heard, train_lost, done_by, entry_in, snapshot_of, Setup, Status, encryption_of, groups_from, received, state_at, status_of, value, Call, stepped, joined, asked, served, served_of, steps_of, with_step, writes, writes_waiting, AreOctets, IsWritten, op_of, state_of, cause_of}
use Rattle.bcast_base.specs.Encoding.{number}
use Rattle.receive_state.specs.Layout.{IsEncoded, StateIs, code_of, group_of, number_of, encoding}
use Rattle.assistant_machine.specs.Views.{told_of}
use Rattle.delegator_history.specs.declared.train_heard.ControlHeard.{ControlHeard}
use Rattle.delegator_history.specs.Controls.{control_heard, done_heard}
use Rattle.delegator_history.specs.States.{control_heard as control, notified, answered}
use Rattle.delegator_history.proofs.Citable.{snapshot_goes_on}
use Rattle.sink_history.proofs.Fitting.{AreSets, DoneIs, EntryIs, MetadataIs, SnapshotIs, SlotIs, after_is, entries_count, entry_is, no_entries, operation_is, read_done_is}
use Rattle.sink_history.proofs.OctetLists.{joined_octets, no_octets, number_octets, one_more}
use Rattle.sink_history.proofs.Trains.{train_is}

-- that octets are an operation exactly where they are read as it, and a state
abbrev pub ReadsOperations : Type 0
ReadsOperations = (op : Operation) (octets : List ℕ) → IsOctets octets → (op_of octets ≡ Ok op) ↔ OpIs op octets

abbrev pub ReadsStates : Type 0
ReadsStates = (state : Option ReceiveState) (octets : List ℕ) → IsOctets octets → (state_of octets ≡ Ok state) ↔ StateIs state octets

-- ---- the states of a sink that fits

set_at : (bits : List ℕ) → AreSets bits → (place : ℕ) → get_or bits place 0 < 2 ^ 31
set_at [] are place = omega arith
set_at (set ∷ bits) are zero = are.0
set_at (set ∷ bits) are (suc place) = set_at bits are.1 place

not_reserved : (set : ℕ) → set < 2 ^ 31 → is_reserved set ≡ false
not_reserved set small = ap (λ b. b && not (set == all_bits)) (le-ltb 2147483647 set (omega (arith, small)))

none_reserved : (place : ℕ) (bits : List ℕ) (wishes : List Wish) → AreSets bits
    → NoneReserved (flat_map subgroup_fields (map group_of (groups_from place bits wishes)))
none_reserved place bits [] are = tt
none_reserved place bits (wish ∷ wishes) are =
    (not_reserved (get_or bits place 0) (set_at bits are place), (refl, (refl, none_reserved (place + 1) bits wishes are)))

groups_fit : (place : ℕ) (bits : List ℕ) (wishes : List Wish) → AreSets bits → AllByRecursion MetadataIs wishes
    → AllByRecursion Fits (map group_of (groups_from place bits wishes))
groups_fit place bits [] are fit = tt
groups_fit place bits (wish ∷ wishes) are fit =
    let small : get_or bits place 0 < 2 ^ 31 = set_at bits are place in
    (record { bits = omega (arith, small); metadata = omega (arith, fit.0.0) }, groups_fit (place + 1) bits wishes are fit.1)

groups_count : (place : ℕ) (bits : List ℕ) (wishes : List Wish) → length (map group_of (groups_from place bits wishes)) ≡ length wishes
groups_count place bits [] = refl
groups_count place bits (wish ∷ wishes) = ap suc (groups_count (place + 1) bits wishes)

groups_octets : (place : ℕ) (bits : List ℕ) (wishes : List Wish) → AllByRecursion MetadataIs wishes
    → IsOctets (laid (flat_map subgroup_fields (map group_of (groups_from place bits wishes))))
groups_octets place bits [] fit = no_octets
groups_octets place bits (wish ∷ wishes) fit =
    let rest : List ℕ = laid (flat_map subgroup_fields (map group_of (groups_from (place + 1) bits wishes))) in
    joined_octets (number 4 (get_or bits place 0)) (length wish.metadata ∷ (wish.metadata ++ rest)) (number_octets 4 (get_or bits place 0))
    (one_more (length wish.metadata) (wish.metadata ++ rest) (omega (arith, fit.0.0))
    (joined_octets wish.metadata rest fit.0.1 (groups_octets (place + 1) bits wishes fit.1)))

synced_octet : (b : Bool) → (if b then 2 else 0) < 256
synced_octet b = grind arith

encryption_octets : (b : Bool) (rest : List ℕ) → IsOctets rest → IsOctets (number_of (encryption_of b) ∷ (code_of (encryption_of b) ++ rest))
encryption_octets b rest are = grind (arith, one_more)

state_octets : (status : Status) (entry : Entry) → EntryIs entry → IsOctets (encoding (received status entry))
state_octets status entry is =
    let s = entry.source in
    let groups : List ℕ = laid (flat_map subgroup_fields (map group_of (groups_from 0 status.bits entry.wanted.wishes))) in
    let count : ℕ = length (map group_of (groups_from 0 status.bits entry.wanted.wishes)) in
    let few : count ≡ length entry.wanted.wishes = groups_count 0 status.bits entry.wanted.wishes in
    let counted : IsOctets (count ∷ groups) = one_more count groups (omega (arith, few, is.wishes.few)) (groups_octets 0 status.bits entry.wanted.wishes is.wishes.metadata) in
    let key : List ℕ = number_of (encryption_of status.is_encrypted) ∷ (code_of (encryption_of status.is_encrypted) ++ (count ∷ groups)) in
    let keyed : IsOctets key = encryption_octets status.is_encrypted (count ∷ groups) counted in
    let sync : List ℕ = (if status.is_synced then 2 else 0) ∷ key in
    let synced : IsOctets sync = one_more (if status.is_synced then 2 else 0) key (synced_octet status.is_synced) keyed in
    let id : List ℕ = s.broadcast_id ++ sync in
    let identified : IsOctets id = joined_octets s.broadcast_id sync is.source.broadcast_id_octets synced in
    let at_sid : IsOctets (s.sid ∷ id) = one_more s.sid id (omega (arith, is.source.sid)) identified in
    let address : List ℕ = s.address ++ (s.sid ∷ id) in
    let addressed : IsOctets address = joined_octets s.address (s.sid ∷ id) is.source.address_octets at_sid in
    one_more s.source_id (s.address_type ∷ address) is.source.source_id
    (one_more s.address_type address (omega (arith, is.source.address_type)) addressed)

state_encoded : (status : Status) (entry : Entry) → AreSets status.bits → EntryIs entry → IsEncoded (received status entry) (encoding (received status entry))
state_encoded status entry sets is = grind (arith, groups_count, groups_fit, le-ltb, none_reserved)

entry_back : ReadsStates → (status : Status) (entry : Option Entry) → AreSets status.bits → SlotIs entry
    → reading_of (value (option_map (received status) entry)) ≡ Some (option_map (received status) entry)
entry_back reads status None sets is = refl
entry_back reads status (Some entry) sets is =
    ap told_of ((reads (Some (received status entry)) (encoding (received status entry)) (state_octets status entry is)).1 (state_encoded status entry sets is))

bits_are : (b : Bool) (taken : List ℕ) → AreSets taken → AreSets (if b then taken else [])
bits_are b taken are = grind arith

pub snapshot_back : ReadsStates → (n : ℕ) (snapshot : Snapshot) (slot : ℕ) → SnapshotIs n snapshot → reading_of (value (state_at snapshot slot)) ≡ Some (state_at snapshot slot)
snapshot_back reads n snapshot slot is = grind (arith, entry_back, status_of, bits_are, is_on_group, entry_is)

-- ---- a sink fits after each step

control_is : (answer : ControlHeard) → DoneIs (done_heard answer)
control_is answer = grind arith

done_is : ReadsOperations → (setup : Setup) (snapshot : Snapshot) (step : Step) → length snapshot.slots ≡ setup.slots → setup.slots < 256 → IsWritten step
    → DoneIs (done_by setup snapshot step)
done_is reads setup snapshot (record_added entry) count few octets = tt
done_is reads setup snapshot (locations_set locations) count few octets = tt
done_is reads setup snapshot (contexts_set contexts) count few octets = tt
done_is reads setup snapshot (mtu_set mtu) count few octets = tt
done_is reads setup snapshot (sync_to_group big_sync) count few octets = tt
done_is reads setup snapshot (written write) count few octets =
    read_done_is setup.slots snapshot (op_of write) (cause_of snapshot write) count few (λ op is. operation_is op write octets ((reads op write octets).0 is))
done_is reads setup snapshot (train_heard train) count few octets = train_is setup snapshot train
done_is reads setup snapshot train_lost count few octets = tt
done_is reads setup snapshot (control heard) count few octets = control_is (control_heard snapshot.place heard)
done_is reads setup snapshot notified count few octets = tt

new_is : (setup : Setup) → SnapshotIs setup.slots (snapshot_of setup [])
unfolding answered
new_is setup = record { count = entries_count (entry_in []) 0 setup.slots; slots = no_entries (entry_in []) 0 setup.slots (λ i. refl); taken = tt }

pub snapshot_is : ReadsOperations → (setup : Setup) (steps : List Step) → setup.slots < 256 → AllByRecursion IsWritten steps → SnapshotIs setup.slots (snapshot_of setup steps)
snapshot_is reads setup [] few are = new_is setup
snapshot_is reads setup (step ∷ steps) few are =
    let is : SnapshotIs setup.slots (snapshot_of setup steps) = snapshot_is reads setup steps few are.1 in
    subst (SnapshotIs setup.slots) (sym (snapshot_goes_on setup step steps))
    (after_is setup.slots (done_by setup (snapshot_of setup steps) step) (snapshot_of setup steps) (done_is reads setup (snapshot_of setup steps) step is.count few are.0) is)

-- ---- what is written over the links

put_is : (b : Bool) (octets : List ℕ) (before : List (List ℕ)) → IsOctets octets → AllByRecursion IsOctets before
    → AllByRecursion IsOctets (if b then before ++ octets ∷ [] else before)
put_is true octets (first ∷ before) is are = (are.0, put_is true octets before is are.1)
put_is b octets before is are = search

anew_is : (b : Bool) (before : List (List ℕ)) → AllByRecursion IsOctets before → AllByRecursion IsOctets (if b then [] else before)
anew_is b before are = grind arith

writes_are : (link : ℕ) (calls : List Call) → AreOctets calls → AllByRecursion IsOctets (writes link calls)
writes_are link [] are = tt
writes_are link (joined at ∷ earlier) are = anew_is (at == link) (writes link earlier) (writes_are link earlier are.1)
writes_are link (asked at octets ∷ earlier) are = put_is (at == link) octets (writes link earlier) are.0 (writes_are link earlier are.1)
writes_are link (_ ∷ earlier) are = writes_are link earlier are.1

behind_are : (n : ℕ) (all : List (List ℕ)) → AllByRecursion IsOctets all → AllByRecursion IsOctets (drop n all)
behind_are (suc n) (first ∷ all) are = behind_are n all are.1
behind_are n all are = search

served_is : (waiting : List (List ℕ)) (steps : List Step) → AllByRecursion IsOctets waiting → AllByRecursion IsWritten steps
    → AllByRecursion IsWritten (with_step (option_map written (slice_get waiting 0)) steps)
served_is [] steps waits are = are
served_is (first ∷ waiting) steps waits are = (waits.0, are)

pub steps_are : (calls : List Call) → AreOctets calls → AllByRecursion IsWritten (steps_of calls)
steps_are [] are = tt
steps_are (stepped step ∷ earlier) are = (are.0, steps_are earlier are.1)
steps_are (served link ∷ earlier) are =
    served_is (writes_waiting link earlier) (steps_of earlier)
    (behind_are (served_of link earlier) (writes link earlier) (writes_are link earlier are.1)) (steps_are earlier are.1)
steps_are (_ ∷ earlier) are = steps_are earlier are.1

pub states_back : ReadsOperations → ReadsStates → (setup : Setup) (slot : ℕ) (calls : List Call) → setup.slots < 256 → AreOctets calls
    → reading_of (value (state_at (snapshot_of setup (steps_of calls)) slot)) ≡ Some (state_at (snapshot_of setup (steps_of calls)) slot)
states_back operations states setup slot calls few are =
    snapshot_back states setup.slots (snapshot_of setup (steps_of calls)) slot (snapshot_is operations setup (steps_of calls) few (steps_are calls are))
