-- The first cause that holds of an operation, and what is done where none does.
use Rattle.delegator_control.proofs.Prelude.{ℕ, ◌≡◌, ◌<◌, Bool, true, false, List, [], ◌++◌, length, set, Option, Some, None, Ok, refl, sym, ap, ◌∙◌, subst, is_some, is_none, unwrap_or, nat_lt, option_map, if◌then◌else◌, Operation, Add, Modify, Code, Remove, encoding, Notice, Cause, Reply, Accepted, change, changes, Wanted, Entry, Snapshot, is_on, entry_at, Done, added, modified, removed, after, placed, place_given, place_wanted, wanting, received, status_of, state_at, value, value_at, slot_where, has_source, slot_with, empty_slot, least_unused, entry_of, operated, value_written, is_synced, cause_read, reply_by, done_read, Move, Stay, Replies, Machine, moved, place_by, status_at, arith}
use Rattle.bass_operations.specs.declared.operation.AddSource.{AddSource}
use Rattle.bass_operations.specs.declared.operation.ModifySource.{ModifySource}
use Rattle.delegator_history.specs.declared.replies.Cause.TheVariants as causes
use Rattle.delegator_history.specs.Snapshots as snapshots
use Rattle.delegator_control.specs.State.Puts.{Puts}
use Rattle.delegator_control.proofs.Changes.{filled_one, filled_value}
use Rattle.delegator_control.proofs.Encoded.{synced_is_on}
use Rattle.delegator_control.proofs.Standing.{moved_nothing}

pub refused : (op : Operation) (m : Machine) (cause : Cause) (reply : Reply) → cause_read m.snapshot (Ok op) ≡ Some cause → reply ≡ reply_by (Some cause) → Replies op m m reply
refused op m cause reply holds is = grind (arith, reply_by, moved, done_read, moved_nothing)

pub accepted : (op : Operation) (m now : Machine) (reply : Reply) → cause_read m.snapshot (Ok op) ≡ None → reply ≡ Accepted → now ≡ moved (operated m.snapshot.slots op) m → Replies op m now reply
accepted op m now reply none is done = grind (arith, reply_by, moved, done_read)

-- ---- Add Source

abbrev known_in : Snapshot → AddSource → Bool
known_in snapshot add = is_some (slot_where (has_source add.address_type add.sid add.broadcast_id) 0 snapshot.slots)

add_rows : Bool → Bool → Bool → Option Cause
add_rows known full long = if known then Some causes.Known else (if full then Some causes.NoRoom else (if long then Some causes.ValueTooLong else None))

add_cause : (snapshot : Snapshot) (add : AddSource) → cause_read snapshot (Ok (Add add))
    ≡ add_rows (known_in snapshot add) (is_none (empty_slot snapshot.slots)) (nat_lt 512 (length (value_written snapshot (operated snapshot.slots (Add add)))))
unfolding add_rows
add_cause snapshot add = refl

pub add_known : (snapshot : Snapshot) (add : AddSource) (found : Option ℕ) → found ≡ slot_where (has_source add.address_type add.sid add.broadcast_id) 0 snapshot.slots
    → is_some found ≡ true → cause_read snapshot (Ok (Add add)) ≡ Some causes.Known
unfolding add_rows
add_known snapshot add found is some = grind (arith, add_cause snapshot add)

pub add_full : (snapshot : Snapshot) (add : AddSource) (found : Option ℕ) → found ≡ slot_where (has_source add.address_type add.sid add.broadcast_id) 0 snapshot.slots
    → is_some found ≡ false → empty_slot snapshot.slots ≡ None → cause_read snapshot (Ok (Add add)) ≡ Some causes.NoRoom
unfolding add_rows
add_full snapshot add found is none full = grind (arith, add_cause snapshot add)

pub add_long : (snapshot : Snapshot) (add : AddSource) (found : Option ℕ) (slot : ℕ) (long : Bool) → found ≡ slot_where (has_source add.address_type add.sid add.broadcast_id) 0 snapshot.slots
    → is_some found ≡ false → empty_slot snapshot.slots ≡ Some slot → slot < length snapshot.slots
    → nat_lt 512 (length (encoding (received (status_of snapshot.place snapshot.encrypted snapshot.taken slot) (entry_of (least_unused snapshot.slots) add)))) ≡ long
    → cause_read snapshot (Ok (Add add)) ≡ (if long then Some causes.ValueTooLong else None)
unfolding add_rows
add_long snapshot add found slot long is none there within value =
    grind (
      arith,
      entry_of (least_unused snapshot.slots) add,
      filled_value slot snapshot (Some (entry_of (least_unused snapshot.slots) add)) None within,
      value,
      add_cause snapshot add,
    )

-- ---- Modify, Code and Remove

pub modify_unknown : (snapshot : Snapshot) (modify : ModifySource) → slot_with modify.source_id snapshot.slots ≡ None → cause_read snapshot (Ok (Modify modify)) ≡ Some causes.SourceUnknown
modify_unknown snapshot modify none = grind (arith, is_none, nat_lt, length, value_written, operated)

abbrev pub wanted_by : ModifySource → Wanted
wanted_by modify = record { pa_sync = modify.pa_sync; wishes = modify.wishes }

pub modify_long : (snapshot : Snapshot) (modify : ModifySource) (slot : ℕ) (long : Bool) → slot_with modify.source_id snapshot.slots ≡ Some slot
    → nat_lt 512 (length (value_at (after (modified slot (wanted_by modify)) snapshot) slot)) ≡ long
    → cause_read snapshot (Ok (Modify modify)) ≡ (if long then Some causes.ValueTooLong else None)
modify_long snapshot modify slot long there value = grind (arith, is_none, nat_lt, length, value_written, modified, unwrap_or, value)

pub code_cause : (snapshot : Snapshot) (source_id : ℕ) (found : Option ℕ) (some : Bool) (code : List ℕ) → found ≡ slot_with source_id snapshot.slots → is_some found ≡ some
    → cause_read snapshot (Ok (Code source_id code)) ≡ (if some then Some causes.NoDecrypt else Some causes.SourceUnknown)
code_cause snapshot source_id found some code is holds = grind (arith, is_none)

pub remove_unknown : (snapshot : Snapshot) (source_id : ℕ) → slot_with source_id snapshot.slots ≡ None → cause_read snapshot (Ok (Remove source_id)) ≡ Some causes.SourceUnknown
remove_unknown snapshot source_id none = grind (arith, is_none, is_synced, state_at, unwrap_or, slot_with)

pub remove_synced : (snapshot : Snapshot) (source_id slot : ℕ) (entry : Entry) (synced : Bool) → slot_with source_id snapshot.slots ≡ Some slot
    → entry_at snapshot.slots slot ≡ Some entry → is_on snapshot.place slot ≡ synced
    → cause_read snapshot (Ok (Remove source_id)) ≡ (if synced then Some causes.StillSynced else None)
remove_synced snapshot source_id slot entry synced there held on =
    grind (arith, synced_is_on snapshot.place snapshot.encrypted snapshot.taken slot entry)

-- ---- what is done

-- a slot that is filled or emptied, and a sink that moves
pub filled_done : (m : Machine) (slot : ℕ) (entry : Option Entry) (moves : Move) (done : Done) (value_now : List ℕ) → slot < m.setup.slots → slot < length m.snapshot.slots
    → ((now : snapshots.Place) → place_by m.snapshot.place moves ≡ Some now → is_on m.snapshot.place slot ≡ true)
    → after done m.snapshot ≡ placed (place_by m.snapshot.place moves) None None (record m.snapshot { slots = set m.snapshot.slots slot entry })
    → value_now ≡ value (option_map (received (status_of (placed (place_by m.snapshot.place moves) None None m.snapshot).place
    (placed (place_by m.snapshot.place moves) None None m.snapshot).encrypted (placed (place_by m.snapshot.place moves) None None m.snapshot).taken slot)) entry)
    → record m {
      snapshot = placed (place_by m.snapshot.place moves) None None (record m.snapshot { slots = set m.snapshot.slots slot entry });
      waiting = m.waiting ++ change slot (value_at m.snapshot slot) value_now;
    } ≡ moved done m
filled_done m slot entry moves done value_now within there on does is =
    grind (arith, placed, place_by, set, changes, change, value_at, filled_one, filled_value)

-- a slot that changes, and the place stays
slot_done : (m now : Machine) (slot : ℕ) (entry : Option Entry) (slots : List (Option Entry)) (waiting : List Notice) (done : Done) (value_now : List ℕ)
    → slot < m.setup.slots → slot < length m.snapshot.slots
    → now ≡ record m { snapshot = record m.snapshot { slots = slots }; waiting = waiting }
    → slots ≡ set m.snapshot.slots slot entry → waiting ≡ m.waiting ++ change slot (value_at m.snapshot slot) value_now
    → after done m.snapshot ≡ record m.snapshot { slots = set m.snapshot.slots slot entry }
    → value_now ≡ value (option_map (received (status_of m.snapshot.place m.snapshot.encrypted m.snapshot.taken slot)) entry)
    → now ≡ moved done m
slot_done m now slot entry slots waiting done value_now within there is filled waits does will =
    is ∙ (λ i. record m { snapshot = record m.snapshot { slots = filled i }; waiting = waits i })
    ∙ filled_done m slot entry Stay done value_now within there (λ place e. absurd cc) does will

pub add_done : (m now : Machine) (add : AddSource) (slot : ℕ) (slots : List (Option Entry)) (waiting : List Notice) → empty_slot m.snapshot.slots ≡ Some slot
    → slot < m.setup.slots → slot < length m.snapshot.slots
    → now ≡ record m { snapshot = record m.snapshot { slots = slots }; waiting = waiting }
    → slots ≡ set m.snapshot.slots slot (Some (entry_of (least_unused m.snapshot.slots) add))
    → waiting ≡ m.waiting ++ change slot (value_at m.snapshot slot) (encoding (received (status_of m.snapshot.place m.snapshot.encrypted m.snapshot.taken slot) (entry_of (least_unused m.snapshot.slots) add)))
    → now ≡ moved (operated m.snapshot.slots (Add add)) m
add_done m now add slot slots waiting empty within there is filled waits =
    let entry : Entry = entry_of (least_unused m.snapshot.slots) add in
    slot_done m now slot (Some entry) slots waiting (added slot entry) (encoding (received (status_of m.snapshot.place m.snapshot.encrypted m.snapshot.taken slot) entry)) within there is filled waits refl refl
    ∙ ap (λ o. moved (added (unwrap_or o 0) entry) m) (sym empty)

pub remove_done : (m now : Machine) (source_id slot : ℕ) (slots : List (Option Entry)) (waiting : List Notice)
    → slot_with source_id m.snapshot.slots ≡ Some slot → slot < m.setup.slots → slot < length m.snapshot.slots
    → now ≡ record m { snapshot = record m.snapshot { slots = slots }; waiting = waiting } → slots ≡ set m.snapshot.slots slot None
    → waiting ≡ m.waiting ++ change slot (value_at m.snapshot slot) [] → now ≡ moved (operated m.snapshot.slots (Remove source_id)) m
remove_done m now source_id slot slots waiting held within there is emptied waits =
    grind (arith, slot_done m now slot None slots waiting (removed slot) [] within there is emptied waits refl refl)

-- a slot that is modified, and a sink that moves
pub modified_is : (snapshot : Snapshot) (slot : ℕ) (entry : Entry) (wanted : Wanted) (moves : Move) → entry_at snapshot.slots slot ≡ Some entry
    → place_by snapshot.place moves ≡ place_given snapshot (modified slot wanted)
    → after (modified slot wanted) snapshot ≡ placed (place_by snapshot.place moves) None None (record snapshot { slots = set snapshot.slots slot (Some (record entry { wanted = wanted })) })
modified_is snapshot slot entry wanted moves held same = grind (arith, placed, set, wanting)

stays_on : (b : Bool) (place : Option snapshots.Place) (now : snapshots.Place) → (if b then place else None) ≡ Some now → b ≡ true
stays_on b place now e = grind arith

pub modify_value : (snapshot : Snapshot) (slot : ℕ) (entry : Entry) (wanted : Wanted) (moves : Move) → slot < length snapshot.slots → entry_at snapshot.slots slot ≡ Some entry
    → place_by snapshot.place moves ≡ place_given snapshot (modified slot wanted) → value_at (after (modified slot wanted) snapshot) slot
    ≡ encoding (received (status_of (placed (place_by snapshot.place moves) None None snapshot).place (placed (place_by snapshot.place moves) None None snapshot).encrypted
    (placed (place_by snapshot.place moves) None None snapshot).taken slot) (record entry { wanted = wanted }))
modify_value snapshot slot entry wanted moves there held same = grind (arith, value_at, modified_is, filled_value, place_by)

pub modify_done : (m now : Machine) (modify : ModifySource) (slot : ℕ) (entry : Entry) (moves : Move) (slots : List (Option Entry)) (waiting : List Notice)
    → slot_with modify.source_id m.snapshot.slots ≡ Some slot → slot < m.setup.slots → slot < length m.snapshot.slots
    → entry_at m.snapshot.slots slot ≡ Some entry → place_by m.snapshot.place moves ≡ place_given m.snapshot (modified slot (wanted_by modify))
    → now ≡ record m { snapshot = placed (place_by m.snapshot.place moves) None None (record m.snapshot { slots = slots }); waiting = waiting }
    → slots ≡ set m.snapshot.slots slot (Some (record entry { wanted = wanted_by modify }))
    → waiting ≡ m.waiting ++ change slot (value_at m.snapshot slot) (encoding (received (status_of (placed (place_by m.snapshot.place moves) None None m.snapshot).place
    (placed (place_by m.snapshot.place moves) None None m.snapshot).encrypted (placed (place_by m.snapshot.place moves) None None m.snapshot).taken slot)
    (record entry { wanted = wanted_by modify }))) → now ≡ moved (operated m.snapshot.slots (Modify modify)) m
modify_done m now modify slot entry moves slots waiting found within there held same is filled waits =
    is
    ∙ (λ i. record m { snapshot = placed (place_by m.snapshot.place moves) None None (record m.snapshot { slots = filled i }); waiting = waits i })
    ∙ filled_done m slot (Some (record entry { wanted = wanted_by modify })) moves (modified slot (wanted_by modify)) _ within there
    (λ place e. stays_on (is_on m.snapshot.place slot) (place_wanted m.snapshot slot (wanted_by modify)) place (sym same ∙ e))
    (modified_is m.snapshot slot entry (wanted_by modify) moves held same) refl
    ∙ ap (λ o. moved (modified (unwrap_or o 0) (wanted_by modify)) m) (sym found)

-- ---- a slot that was put, or not

pub puts_no : (v : List ℕ) (slot : ℕ) (entry : Entry) (before : List ℕ) (slots slots_now : List (Option Entry)) (waiting waiting_now : List Notice) (fits : Bool) → fits ≡ false
    → Puts v slot entry before slots slots_now waiting waiting_now (Ok fits) → (nat_lt 512 (length v) ≡ true) × (slots_now ≡ slots) × (waiting_now ≡ waiting)
puts_no v slot entry before slots slots_now waiting waiting_now fits is puts = grind arith

pub puts_yes : (v : List ℕ) (slot : ℕ) (entry : Entry) (before : List ℕ) (slots slots_now : List (Option Entry)) (waiting waiting_now : List Notice) (fits : Bool) → fits ≡ true
    → Puts v slot entry before slots slots_now waiting waiting_now (Ok fits)
    → (nat_lt 512 (length v) ≡ false) × (slots_now ≡ set slots slot (Some entry)) × (waiting_now ≡ waiting ++ change slot before v)
puts_yes v slot entry before slots slots_now waiting waiting_now fits is puts = grind arith

-- nothing changed
pub same_rest : (m now : Machine) (slots : List (Option Entry)) (waiting : List Notice) → now ≡ record m { snapshot = record m.snapshot { slots = slots }; waiting = waiting }
    → slots ≡ m.snapshot.slots → waiting ≡ m.waiting → now ≡ m
same_rest m now slots waiting is slots_same waiting_same = is ∙ (λ i. record m { snapshot = record m.snapshot { slots = slots_same i }; waiting = waiting_same i })

pub add_refused : (m now : Machine) (add : AddSource) (known : Option ℕ) (slot : ℕ) (filled : Entry) (reply : Reply)
    → known ≡ slot_where (has_source add.address_type add.sid add.broadcast_id) 0 m.snapshot.slots → is_some known ≡ false
    → empty_slot m.snapshot.slots ≡ Some slot → slot < length m.snapshot.slots → filled ≡ entry_of (least_unused m.snapshot.slots) add
    → nat_lt 512 (length (encoding (received (status_of m.snapshot.place m.snapshot.encrypted m.snapshot.taken slot) filled))) ≡ true
    → now ≡ m → reply ≡ reply_by (Some causes.ValueTooLong) → Replies (Add add) m now reply
add_refused m now add known slot filled reply is none empty there fills long same told =
    let wide = subst (λ (f : Entry). nat_lt 512 (length (encoding (received (status_of m.snapshot.place m.snapshot.encrypted m.snapshot.taken slot) f))) ≡ true) fills long in
    subst (λ (k : Machine). Replies (Add add) m k reply) (sym same)
    (refused (Add add) m causes.ValueTooLong reply (add_long m.snapshot add known slot true is none empty there wide) told)

pub add_accepted : (m now : Machine) (add : AddSource) (known : Option ℕ) (slot : ℕ) (filled : Entry) (slots : List (Option Entry)) (waiting : List Notice)
    → known ≡ slot_where (has_source add.address_type add.sid add.broadcast_id) 0 m.snapshot.slots → is_some known ≡ false
    → empty_slot m.snapshot.slots ≡ Some slot → slot < m.setup.slots → slot < length m.snapshot.slots → filled ≡ entry_of (least_unused m.snapshot.slots) add
    → nat_lt 512 (length (encoding (received (status_of m.snapshot.place m.snapshot.encrypted m.snapshot.taken slot) filled))) ≡ false
    → now ≡ record m { snapshot = record m.snapshot { slots = slots }; waiting = waiting } → slots ≡ set m.snapshot.slots slot (Some filled)
    → waiting ≡ m.waiting ++ change slot (value_at m.snapshot slot) (encoding (received (status_of m.snapshot.place m.snapshot.encrypted m.snapshot.taken slot) filled))
    → Replies (Add add) m now Accepted
add_accepted m now add known slot filled slots waiting is none empty within there fills short does filled_so waits =
    let status = status_of m.snapshot.place m.snapshot.encrypted m.snapshot.taken slot in
    let narrow = subst (λ (f : Entry). nat_lt 512 (length (encoding (received (status_of m.snapshot.place m.snapshot.encrypted m.snapshot.taken slot) f))) ≡ false) fills short in
    accepted (Add add) m now Accepted (add_long m.snapshot add known slot false is none empty there narrow) refl
    (add_done m now add slot slots waiting empty within there does (filled_so ∙ ap (λ f. set m.snapshot.slots slot (Some f)) fills)
    (waits ∙ ap (λ f. m.waiting ++ change slot (value_at m.snapshot slot) (encoding (received status f))) fills))

pub remove_accepted : (m now : Machine) (source_id slot : ℕ) (entry : Entry) (slots : List (Option Entry)) (waiting : List Notice)
    → slot_with source_id m.snapshot.slots ≡ Some slot → entry_at m.snapshot.slots slot ≡ Some entry → is_on m.snapshot.place slot ≡ false
    → slot < m.setup.slots → slot < length m.snapshot.slots
    → now ≡ record m { snapshot = record m.snapshot { slots = slots }; waiting = waiting } → slots ≡ set m.snapshot.slots slot None
    → waiting ≡ m.waiting ++ change slot (value_at m.snapshot slot) [] → Replies (Remove source_id) m now Accepted
remove_accepted m now source_id slot entry slots waiting found held off within there does emptied waits =
    accepted (Remove source_id) m now Accepted (remove_synced m.snapshot source_id slot entry false found held off) refl
    (remove_done m now source_id slot slots waiting found within there does emptied waits)

pub modify_refused : (m now : Machine) (modify : ModifySource) (slot : ℕ) (entry : Entry) (moves : Move) (filled : Entry) (reply : Reply)
    → slot_with modify.source_id m.snapshot.slots ≡ Some slot → slot < length m.snapshot.slots → entry_at m.snapshot.slots slot ≡ Some entry
    → place_by m.snapshot.place moves ≡ place_given m.snapshot (modified slot (wanted_by modify)) → filled ≡ record entry { wanted = wanted_by modify }
    → nat_lt 512 (length (encoding (received (status_at slot (placed (place_by m.snapshot.place moves) None None m.snapshot)) filled))) ≡ true
    → now ≡ m → reply ≡ reply_by (Some causes.ValueTooLong) → Replies (Modify modify) m now reply
modify_refused m now modify slot entry moves filled reply found there held same fills long unchanged told =
    let wide : nat_lt 512 (length (value_at (after (modified slot (wanted_by modify)) m.snapshot) slot)) ≡ true = grind (arith, nat_lt, length, modify_value, encoding, received, status_at, placed, place_by) in
    subst (λ (k : Machine). Replies (Modify modify) m k reply) (sym unchanged)
    (refused (Modify modify) m causes.ValueTooLong reply (modify_long m.snapshot modify slot true found wide) told)

pub modify_accepted : (m now : Machine) (modify : ModifySource) (slot : ℕ) (entry : Entry) (moves : Move) (filled : Entry) (slots : List (Option Entry)) (waiting : List Notice)
    → slot_with modify.source_id m.snapshot.slots ≡ Some slot → slot < m.setup.slots → slot < length m.snapshot.slots → entry_at m.snapshot.slots slot ≡ Some entry
    → place_by m.snapshot.place moves ≡ place_given m.snapshot (modified slot (wanted_by modify)) → filled ≡ record entry { wanted = wanted_by modify }
    → nat_lt 512 (length (encoding (received (status_at slot (placed (place_by m.snapshot.place moves) None None m.snapshot)) filled))) ≡ false
    → now ≡ record m { snapshot = placed (place_by m.snapshot.place moves) None None (record m.snapshot { slots = slots }); waiting = waiting }
    → slots ≡ set m.snapshot.slots slot (Some filled)
    → waiting ≡ m.waiting ++ change slot (value_at m.snapshot slot) (encoding (received (status_at slot (placed (place_by m.snapshot.place moves) None None m.snapshot)) filled))
    → Replies (Modify modify) m now Accepted
modify_accepted m now modify slot entry moves filled slots waiting found within there held same fills short does filled_so waits =
    let narrow : nat_lt 512 (length (value_at (after (modified slot (wanted_by modify)) m.snapshot) slot)) ≡ false = grind (arith, nat_lt, length, modify_value, encoding, received, status_at, placed, place_by) in
    accepted (Modify modify) m now Accepted (modify_long m.snapshot modify slot false found narrow) refl
    (modify_done m now modify slot entry moves slots waiting found within there held same does (filled_so ∙ ap (λ f. set m.snapshot.slots slot (Some f)) fills)
    (waits ∙ ap (λ f. m.waiting ++ change slot (value_at m.snapshot slot) (encoding (received (status_at slot (placed (place_by m.snapshot.place moves) None None m.snapshot)) f))) fills))

code_replies : (m : Machine) (source_id : ℕ) (code : List ℕ) (reply : Reply) → reply ≡ reply_by (cause_read m.snapshot (Ok (Code source_id code))) → Replies (Code source_id code) m m reply
code_replies m source_id code reply is = grind (arith, moved, cause_read, moved_nothing)

pub code_case : (op : Operation) (source_id : ℕ) (code : List ℕ) (m : Machine) (reply : Reply) → op ≡ Code source_id code
    → ((other : List ℕ) → reply ≡ reply_by (cause_read m.snapshot (Ok (Code source_id other)))) → Replies op m m reply
code_case op source_id code m reply is told = subst (λ (o : Operation). Replies o m m reply) (sym is) (code_replies m source_id code reply (told code))
