-- The value of a slot has at most 512 octets, and so has each notice: a write that would give a slot a longer value is refused.
use Rattle.sink_c.proofs.Prelude.{◌≡◌, ℕ, zero, suc, ◌≤◌, List, [], ◌∷◌, ◌++◌, length, Bool, true, false, Option, Some, None, Result, refl, sym, ap, subst, ◌∙◌, arith, Setup}
use Rattle.std.proofs.Common.{◌+◌, ◌-◌, Ok, Err, map, set, get_or, cond, ltb}
use Rattle.std.proofs.lemmas.Bool.{ltb-false}
use Rattle.std.proofs.lemmas.Grind.{flat_map-append}
use Rattle.std.proofs.lemmas.List.{length-append, length-take}
use Rattle.std.proofs.lemmas.List.Elements.{All-nil, All-cons, All-append, All-drop, All-head}
use Rattle.std.proofs.lemmas.Option.{same_Some}
use Rattle.std.specs.List.{All, AllByRecursion, flat_map, range_with_len}
use Rattle.std.specs.Prelude.{is_none, is_some, option_map, slice_get, unwrap_or}
use Rattle.std.specs.Str.{bytes_eq}
use Rattle.bass_operations.specs.declared.fault.OpFault.{OpFault}
use Rattle.bass_operations.specs.declared.operation.Operation.{Operation}
use Rattle.bass_operations.specs.declared.operation.Operation.TheVariants.{ScanStopped, ScanStarted, Add, Modify, Code, Remove}
use Rattle.bass_operations.specs.declared.wishes.Wish.{Wish}
use Rattle.bass_operations.specs.Reading.{op_of}
use Rattle.bcast_base.proofs.Citable.{number-length}
use Rattle.bcast_base.specs.Encoding.{number}
use Rattle.bcast_base.specs.Layout.{Field, laid}
use Rattle.bcast_base.specs.Subgroups.{Subgroup, subgroup_fields}
use Rattle.delegator_history.proofs.Citable.{snapshot_goes_on}
use Rattle.delegator_history.specs.Controls.{control_heard, done_heard}
use Rattle.delegator_history.specs.Notices.{change, delivered, handed_out, mtu_in, notices, waiting}
use Rattle.delegator_history.specs.Snapshots.{Entry, Place, Snapshot, Wanted, entry_at}
use Rattle.delegator_history.specs.States as states
use Rattle.delegator_history.specs.States.{Step, answered, done_by, entry_in, snapshot_of}
use Rattle.delegator_history.specs.Steps.{Done, after, encryption_given, place_given, placed, slots_after, taken_given, wanting}
use Rattle.delegator_history.specs.Trains.{TrainOutcome, done_by_outcome, heard, ignored, outcome_by, taken}
use Rattle.delegator_history.specs.Values.{Status, encryption_of, groups_from, received, status_of, value, value_at}
use Rattle.delegator_history.specs.Writes.{cause_read, done_read, empty_slot, entry_of, has_source, is_unknown, least_unused, operated, slot_where, slot_with, value_written}
use Rattle.delegator_history.specs.declared.notice.Notice.{Notice}
use Rattle.delegator_history.specs.declared.replies.Cause.{Cause}
use Rattle.delegator_history.specs.declared.replies.Cause.TheVariants as causes
use Rattle.delegator_history.specs.declared.train_heard.ControlHeard.{ControlHeard}
use Rattle.delegator_history.specs.declared.train_heard.ControlHeard.TheVariants as controls
use Rattle.receive_state.specs.Cuts.{cut}
use Rattle.receive_state.specs.Layout.{code_of, encoding, fields_of, group_of, number_of, prefix_fields}
use Rattle.receive_state.specs.declared.state.ReceiveState.{ReceiveState}
use Rattle.sink_c.specs.Sinks.{notices_of}

-- ---- how many octets the state of an entry has, whatever the sink is on

groups_weight : List Wish → ℕ
groups_weight [] = 0
groups_weight (wish ∷ wishes) = 5 + length wish.metadata + groups_weight wishes

entry_weight : Entry → ℕ
entry_weight entry = 6 + length entry.source.address + length entry.source.broadcast_id + groups_weight entry.wanted.wishes

weight : Option Entry → ℕ
weight None = 0
weight (Some entry) = entry_weight entry

groups_length : (place : ℕ) (bits : List ℕ) (wishes : List Wish)
    → length (laid (flat_map subgroup_fields (map group_of (groups_from place bits wishes)))) ≡ groups_weight wishes
unfolding groups_weight
groups_length place bits [] = refl
groups_length place bits (wish ∷ wishes) =
    let rest : List ℕ = laid (flat_map subgroup_fields (map group_of (groups_from (place + 1) bits wishes))) in
    let first : List ℕ = number 4 (get_or bits place 0) in
    let behind : List ℕ = length wish.metadata ∷ (wish.metadata ++ rest) in
    let whole : length (first ++ behind) ≡ length first + length behind = length-append first behind in
    let part : length (wish.metadata ++ rest) ≡ length wish.metadata + length rest = length-append wish.metadata rest in
    let four : length first ≡ 4 = number-length 4 (get_or bits place 0) in
    let others : length rest ≡ groups_weight wishes = groups_length (place + 1) bits wishes in
    whole ∙ omega (arith, part, four, others)

no_code : (is_encrypted : Bool) → code_of (encryption_of is_encrypted) ≡ []
no_code true = refl
no_code false = refl

prefix_length : (id kind sid pa encryption count : ℕ) (address broadcast_id code : List ℕ) → code ≡ []
    → length (id ∷ kind ∷ (address ++ sid ∷ (broadcast_id ++ pa ∷ encryption ∷ (code ++ count ∷ [])))) ≡ 6 + length address + length broadcast_id
prefix_length id kind sid pa encryption count address broadcast_id code none =
    let last : List ℕ = code ++ count ∷ [] in
    let one : length last ≡ 1 = ap (λ (octets : List ℕ). length (octets ++ count ∷ [])) none in
    omega (arith, one, length-append address (sid ∷ (broadcast_id ++ pa ∷ encryption ∷ last)), length-append broadcast_id (pa ∷ encryption ∷ last))

state_length : (status : Status) (entry : Entry) → length (encoding (received status entry)) ≡ entry_weight entry
unfolding entry_weight
state_length status entry =
    let state : ReceiveState = received status entry in
    let groups : List Subgroup = map group_of state.groups in
    let front : List Field = prefix_fields (fields_of state) (length groups) in
    let parts : laid (front ++ flat_map subgroup_fields groups) ≡ laid front ++ laid (flat_map subgroup_fields groups) =
    flat_map-append (λ (field : Field). field.octets) front (flat_map subgroup_fields groups) in
    let head : length (laid front) ≡ 6 + length entry.source.address + length entry.source.broadcast_id =
    prefix_length entry.source.source_id entry.source.address_type entry.source.sid state.pa_sync_state (number_of state.encryption) (length groups)
    entry.source.address entry.source.broadcast_id (code_of (encryption_of status.is_encrypted)) (no_code status.is_encrypted) in
    ap length parts ∙ length-append (laid front) (laid (flat_map subgroup_fields groups))
    ∙ omega (arith, head, groups_length 0 status.bits entry.wanted.wishes)

slot_length : (status : Status) (slot : Option Entry) → length (value (option_map (received status) slot)) ≡ weight slot
unfolding weight
slot_length status None = refl
slot_length status (Some entry) = state_length status entry

value_length : (snapshot : Snapshot) (slot : ℕ) → length (value_at snapshot slot) ≡ weight (entry_at snapshot.slots slot)
value_length snapshot slot = slot_length (status_of snapshot.place snapshot.encrypted snapshot.taken slot) (entry_at snapshot.slots slot)

-- ---- slots with short values

IsShort : Option Entry → Type 0
IsShort slot = weight slot ≤ 512

abbrev AreShort : List (Option Entry) → Type 0
AreShort slots = AllByRecursion IsShort slots

empty_short : IsShort None
unfolding IsShort weight
empty_short = omega arith

written_short : (snapshot : Snapshot) (slot : ℕ) → length (value_at snapshot slot) ≤ 512 → IsShort (entry_at snapshot.slots slot)
unfolding IsShort
written_short snapshot slot short = subst (λ n. n ≤ 512) (value_length snapshot slot) short

-- a slot is filled by what makes it short there
set_short : (slots : List (Option Entry)) (slot : ℕ) (entry : Option Entry) → AreShort slots → IsShort (entry_at (set slots slot entry) slot) → AreShort (set slots slot entry)
set_short [] slot entry short filled = short
set_short (first ∷ slots) zero entry short filled = (filled, short.1)
set_short (first ∷ slots) (suc slot) entry short filled = (short.0, set_short slots slot entry short.1 filled)

emptied_short : (slots : List (Option Entry)) (slot : ℕ) → AreShort slots → AreShort (set slots slot None)
emptied_short [] slot short = short
emptied_short (first ∷ slots) zero short = (empty_short, short.1)
emptied_short (first ∷ slots) (suc slot) short = (short.0, emptied_short slots slot short.1)

at_short : (slots : List (Option Entry)) (slot : ℕ) → AreShort slots → IsShort (entry_at slots slot)
at_short [] slot short = empty_short
at_short (first ∷ slots) zero short = short.0
at_short (first ∷ slots) (suc slot) short = at_short slots slot short.1

-- ---- a write

three_rows : (known full long : Bool) → cond known (Some causes.Known) (cond full (Some causes.NoRoom) (cond long (Some causes.ValueTooLong) None)) ≡ None → long ≡ false
three_rows true full long none = absurd cc
three_rows false true long none = absurd cc
three_rows false false true none = absurd cc
three_rows false false false none = refl

two_rows : (unknown long : Bool) → cond unknown (Some causes.SourceUnknown) (cond long (Some causes.ValueTooLong) None) ≡ None → long ≡ false
two_rows true long none = absurd cc
two_rows false true none = absurd cc
two_rows false false none = refl

placed_slots : (place : Option Place) (encryption : Option Bool) (streams : Option (List ℕ)) (snapshot : Snapshot) → (placed place encryption streams snapshot).slots ≡ snapshot.slots
placed_slots None encryption streams snapshot = refl
placed_slots (Some place) encryption streams snapshot = refl

after_slots : (done : Done) (snapshot : Snapshot) → (after done snapshot).slots ≡ slots_after done snapshot.slots
after_slots done snapshot = placed_slots (place_given snapshot done) (encryption_given done) (taken_given done) _

-- what fills the slot so far that its value is short leaves short slots
filled_short : (snapshot : Snapshot) (slot : ℕ) (entry : Option Entry) (done : Done) → slots_after done snapshot.slots ≡ set snapshot.slots slot entry
    → length (value_at (after done snapshot) slot) ≤ 512 → AreShort snapshot.slots → AreShort (slots_after done snapshot.slots)
filled_short snapshot slot entry done is few short =
    let there : (after done snapshot).slots ≡ set snapshot.slots slot entry = after_slots done snapshot ∙ is in
    subst AreShort (sym is) (set_short snapshot.slots slot entry short
    (subst (λ (slots : List (Option Entry)). IsShort (entry_at slots slot)) there (written_short (after done snapshot) slot few)))

by_operation : (snapshot : Snapshot) (op : Operation) (cause : Option Cause) → cause_read snapshot (Ok op) ≡ cause → AreShort snapshot.slots
    → AreShort (slots_after (done_read snapshot (Ok op) cause) snapshot.slots)
by_operation snapshot op (Some cause) is short = short
by_operation snapshot ScanStopped None is short = short
by_operation snapshot ScanStarted None is short = short
by_operation snapshot (Add add) None is short =
    let done : Done = operated snapshot.slots (Add add) in
    let known : Bool = is_some (slot_where (has_source add.address_type add.sid add.broadcast_id) 0 snapshot.slots) in
    let long : ltb 512 (length (value_written snapshot done)) ≡ false =
    three_rows known (is_none (empty_slot snapshot.slots)) (ltb 512 (length (value_written snapshot done))) is in
    filled_short snapshot (unwrap_or (empty_slot snapshot.slots) 0) (Some (entry_of (least_unused snapshot.slots) add)) done refl
    (ltb-false 512 (length (value_written snapshot done)) long) short
by_operation snapshot (Modify modify) None is short =
    let done : Done = operated snapshot.slots (Modify modify) in
    let slot : ℕ = unwrap_or (slot_with modify.source_id snapshot.slots) 0 in
    let wanted : Wanted = record { pa_sync = modify.pa_sync; wishes = modify.wishes } in
    let long : ltb 512 (length (value_written snapshot done)) ≡ false =
    two_rows (is_unknown snapshot.slots modify.source_id) (ltb 512 (length (value_written snapshot done))) is in
    filled_short snapshot slot (wanting wanted (entry_at snapshot.slots slot)) done refl (ltb-false 512 (length (value_written snapshot done)) long) short
by_operation snapshot (Code source_id code) None is short = short
by_operation snapshot (Remove source_id) None is short = emptied_short snapshot.slots _ short

by_write : (snapshot : Snapshot) (read : Result Operation OpFault) → AreShort snapshot.slots → AreShort (slots_after (done_read snapshot read (cause_read snapshot read)) snapshot.slots)
by_write snapshot (Err fault) short = short
by_write snapshot (Ok op) short = by_operation snapshot op (cause_read snapshot (Ok op)) refl short

-- ---- each step

by_outcome : (outcome : TrainOutcome) (slots : List (Option Entry)) → slots_after (done_by_outcome outcome) slots ≡ slots
by_outcome (ignored answer) slots = refl
by_outcome (heard slot answer encrypted) slots = refl
by_outcome (taken slot bits encrypted big_sync) slots = refl

by_control : (answer : ControlHeard) (slots : List (Option Entry)) → slots_after (done_heard answer) slots ≡ slots
by_control controls.NotOnGroup slots = refl
by_control (controls.Malformed fault) slots = refl
by_control controls.NotControl slots = refl
by_control controls.UnknownOpcode slots = refl
by_control controls.ControlLength slots = refl
by_control controls.MapIgnored slots = refl
by_control controls.Left slots = refl

by_step : (setup : Setup) (snapshot : Snapshot) (step : Step) → AreShort snapshot.slots → AreShort (slots_after (done_by setup snapshot step) snapshot.slots)
by_step setup snapshot (states.record_added entry) short = short
by_step setup snapshot (states.locations_set locations) short = short
by_step setup snapshot (states.contexts_set contexts) short = short
by_step setup snapshot (states.mtu_set mtu) short = short
by_step setup snapshot (states.sync_to_group big_sync) short = short
by_step setup snapshot (states.written octets) short = by_write snapshot (op_of octets) short
by_step setup snapshot (states.train_heard train) short = subst AreShort (sym (by_outcome (outcome_by setup snapshot train) snapshot.slots)) short
by_step setup snapshot states.train_lost short = short
by_step setup snapshot (states.control_heard octets) short = subst AreShort (sym (by_control (control_heard snapshot.place octets) snapshot.slots)) short
by_step setup snapshot states.notified short = short

none_yet : (start n : ℕ) → AreShort (map (entry_in []) (range_with_len start n))
none_yet start zero = tt
none_yet start (suc n) = (empty_short, none_yet (start + 1) n)

new_short : (setup : Setup) → AreShort (snapshot_of setup []).slots
unfolding answered
new_short setup = none_yet 0 setup.slots

slots_short : (setup : Setup) (steps : List Step) → AreShort (snapshot_of setup steps).slots
slots_short setup [] = new_short setup
slots_short setup (step ∷ steps) =
    let before : Snapshot = snapshot_of setup steps in
    let done : Done = done_by setup before step in
    subst (λ (now : Snapshot). AreShort now.slots) (sym (snapshot_goes_on setup step steps))
    (subst AreShort (sym (after_slots done before)) (by_step setup before step (slots_short setup steps)))

pub value_short : (setup : Setup) (steps : List Step) (slot : ℕ) → length (value_at (snapshot_of setup steps) slot) ≤ 512
unfolding IsShort
value_short setup steps slot =
    subst (λ n. n ≤ 512) (sym (value_length (snapshot_of setup steps) slot)) (at_short (snapshot_of setup steps).slots slot (slots_short setup steps))

-- ---- the notices

abbrev HasShort : Notice → Type 0
HasShort notice = length notice.value ≤ 512

change_short : (slot : ℕ) (value : List ℕ) (same : Bool) → length value ≤ 512 → All HasShort (cond same [] (record { slot = slot; value = value } ∷ []))
change_short slot value true few = All-nil HasShort
change_short slot value false few = All-cons HasShort (record { slot = slot; value = value }) [] few (All-nil HasShort)

changes_short : (before now : Snapshot) (start n : ℕ) → ((slot : ℕ) → length (value_at now slot) ≤ 512)
    → All HasShort (flat_map (λ slot. change slot (value_at before slot) (value_at now slot)) (range_with_len start n))
changes_short before now start zero few = All-nil HasShort
changes_short before now start (suc n) few =
    All-append HasShort (change start (value_at before start) (value_at now start)) _ (change_short start (value_at now start) (bytes_eq (value_at before start) (value_at now start)) (few start)) (changes_short before now (start + 1) n few)

notices_short : (setup : Setup) (steps : List Step) → All HasShort (notices setup steps)
notices_short setup [] = All-nil HasShort
notices_short setup (step ∷ steps) =
    All-append HasShort (notices setup steps) _ (notices_short setup steps)
    (changes_short (snapshot_of setup steps) (snapshot_of setup (step ∷ steps)) 0 setup.slots (value_short setup (step ∷ steps)))

cut_short : (mtu : Option ℕ) (octets : List ℕ) → length octets ≤ 512 → length (cut mtu octets) ≤ 512
cut_short None octets few = few
cut_short (Some mtu) octets few = omega (arith, few, length-take (mtu - 3) octets)

first_short : (mtu : Option ℕ) (all : List Notice) (notice : Notice) → All HasShort all → option_map (handed_out mtu) (slice_get all 0) ≡ Some notice → length notice.value ≤ 512
first_short mtu [] notice short is = absurd cc
first_short mtu (first ∷ others) notice short is =
    subst HasShort (same_Some (handed_out mtu first) notice is) (cut_short mtu first.value (All-head HasShort first others short))

pub notice_short : (setup : Setup) (steps : List Step) (notice : Notice) → notices_of setup steps ≡ Some notice → length notice.value ≤ 512
notice_short setup steps notice is =
    first_short (mtu_in steps) (waiting setup steps) notice (All-drop HasShort (delivered setup steps) (notices setup steps) (notices_short setup steps)) is
