-- What a Scan Delegator does, step by step, and what a step makes of what it has. What a Modify Source does to the place of
-- the sink is this project's own.
use Rattle.std.specs.Prelude.{ℕ, ◌==◌, ◌&&◌, not, Bool, false, List, [], ◌∷◌, ◌++◌, map, Option, Some, None, unwrap_or, slice_set, if◌then◌else◌}
use Rattle.std.specs.Str.{bytes_eq}
use Rattle.bass_operations.specs.declared.wishes.Wish.{Wish}
use Rattle.pacs_records.specs.declared.capability.Capability.{Capability}
use Rattle.pacs_records.specs.declared.record.PacRecord.{PacRecord}
use Rattle.delegator_history.specs.Snapshots.{Wanted, Entry, Place, idle, on_train, on_group, Snapshot, slot_of, is_on, is_on_group, entry_at}

pub data Done : Type 0 where
  nothing : Done
  added : (slot : ℕ) (entry : Entry) → Done  -- an accepted Add Source
  modified : (slot : ℕ) (wanted : Wanted) → Done  -- an accepted Modify Source
  removed : (slot : ℕ) → Done  -- an accepted Remove Source
  tuned : Done  -- synchronized to a BIG of no slot
  -- a train of the slot answered NoBase to NoneTaken; from BadGroup on with whether a Broadcast_Code is required
  followed : (slot : ℕ) (encrypted : Option Bool) → Done
  joined : (slot : ℕ) (encrypted : Bool) (taken : List ℕ) → Done  -- a train of the slot answered OnGroup
  lost : Done  -- the train was lost
  left : Done  -- a control PDU answered Left
  recorded : (entry : PacRecord) → Done  -- a record of capabilities was added
  located : (locations : ℕ) → Done  -- Sink Audio Locations were set
  opened : (contexts : ℕ) → Done  -- Available Sink Contexts were set

-- ---- the place

abbrev pub same_streams : List Wish → List Wish → Bool
same_streams wishes others = bytes_eq (map (λ wish. wish.bis_sync) wishes) (map (λ wish. wish.bis_sync) others)

abbrev pub wishes_at : Option Entry → List Wish
wishes_at None = []
wishes_at (Some entry) = entry.wanted.wishes

-- the place after a Modify Source of a slot whose train or group the sink is on, where it changes
abbrev pub place_wanted : Snapshot → ℕ → Wanted → Option Place
place_wanted snapshot slot wanted = if wanted.pa_sync == 0 then Some idle
    else (if is_on_group snapshot.place slot && not (same_streams wanted.wishes (wishes_at (entry_at snapshot.slots slot))) then Some (on_train slot) else None)

abbrev pub place_left : Place → Option Place
place_left (on_group None) = Some idle
place_left (on_group (Some slot)) = Some (on_train slot)
place_left _ = None

abbrev pub place_given : Snapshot → Done → Option Place
place_given snapshot (modified slot wanted) = if is_on snapshot.place slot then place_wanted snapshot slot wanted else None
place_given snapshot tuned = Some (on_group None)
place_given snapshot (followed slot encrypted) = Some (on_train slot)
place_given snapshot (joined slot encrypted taken) = Some (on_group (Some slot))
place_given snapshot lost = Some idle
place_given snapshot left = place_left snapshot.place
place_given snapshot _ = None

abbrev pub place_after : Snapshot → Done → Place
place_after snapshot done = unwrap_or (place_given snapshot done) snapshot.place

-- ---- the slots

abbrev pub wanting : Wanted → Option Entry → Option Entry
wanting wanted None = None
wanting wanted (Some entry) = Some (record entry { wanted = wanted })

abbrev pub slots_after : Done → List (Option Entry) → List (Option Entry)
slots_after (added slot entry) slots = slice_set slots slot (Some entry)
slots_after (modified slot wanted) slots = slice_set slots slot (wanting wanted (entry_at slots slot))
slots_after (removed slot) slots = slice_set slots slot None
slots_after _ slots = slots

-- ---- encryption and streams, which end with the train and the group

abbrev pub encryption_given : Done → Option Bool
encryption_given (followed slot encrypted) = encrypted
encryption_given (joined slot encrypted taken) = Some encrypted
encryption_given _ = None

-- of the slot that the sink is on now: what the step gives, or what it had where it was on this slot before
abbrev pub encrypted_on : Option ℕ → Place → Option Bool → Bool → Bool
encrypted_on None before given encrypted = false
encrypted_on (Some slot) before (Some given) encrypted = given
encrypted_on (Some slot) before None encrypted = is_on before slot && encrypted

abbrev pub taken_given : Done → Option (List ℕ)
taken_given (joined slot encrypted taken) = Some taken
taken_given _ = None

abbrev pub taken_on : Place → Option (List ℕ) → List ℕ → List ℕ
taken_on (on_group (Some slot)) given taken = unwrap_or given taken
taken_on _ given taken = []

-- ---- the capability

abbrev pub capability_after : Done → Capability → Capability
capability_after (recorded entry) capability = record capability { entries = capability.entries ++ entry ∷ [] }
capability_after (located locations) capability = record capability { locations = locations }
capability_after (opened contexts) capability = record capability { contexts = contexts }
capability_after _ capability = capability

-- ---- all of it

-- a place that is given changes what goes with it, to what is given with it
abbrev pub placed : Option Place → Option Bool → Option (List ℕ) → Snapshot → Snapshot
placed None encryption taken snapshot = snapshot
placed (Some place) encryption taken snapshot = record snapshot {
  place = place;
  encrypted = encrypted_on (slot_of place) snapshot.place encryption snapshot.encrypted;
  taken = taken_on place taken snapshot.taken;
}

abbrev pub after : Done → Snapshot → Snapshot
after done snapshot = placed (place_given snapshot done) (encryption_given done) (taken_given done) (record snapshot {
  slots = slots_after done snapshot.slots;
  capability = capability_after done snapshot.capability;
})
