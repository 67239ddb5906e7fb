-- Receive states, looked back for field by field (Broadcast Audio Scan Service 1.0, section 3.2): each is what the last
-- answered step says that says something of it. Steps are listed with the newest first.
use Rattle.std.specs.Prelude.{ℕ, ◌==◌, Bool, false, List, [], ◌∷◌, ◌++◌, map, Option, Some, None, unwrap_or, if◌then◌else◌}
use Rattle.std.specs.List.{range_with_len}
use Rattle.pacs_records.specs.declared.capability.Capability.{Capability}
use Rattle.pacs_records.specs.declared.record.PacRecord.{PacRecord}
use Rattle.delegator_history.specs.declared.source.Source.{Source}
use Rattle.delegator_history.specs.Controls.{done_by_control}
use Rattle.delegator_history.specs.LastGiven.{last_given}
use Rattle.delegator_history.specs.Snapshots.{Wanted, Entry, Place, idle, on_group, Snapshot, slot_of, is_on}
use Rattle.delegator_history.specs.Steps.{Done, nothing, added, modified, removed, tuned, lost, recorded, located, opened, place_given, place_after, encryption_given, taken_given}
use Rattle.delegator_history.specs.Trains.{Setup, Train, outcome_by, done_by_outcome}
use Rattle.sync_reference.specs.BigSync.{BigSync}
use Rattle.delegator_history.specs.Writes.{done_by_write}

pub data Step : Type 0 where
  record_added : (entry : PacRecord) → Step  -- a record of capabilities that found room
  locations_set : (locations : ℕ) → Step
  contexts_set : (contexts : ℕ) → Step
  mtu_set : (mtu : ℕ) → Step
  sync_to_group : (big_sync : BigSync) → Step  -- synchronized to a BIG of no slot
  written : (octets : List ℕ) → Step  -- a write was served
  train_heard : (train : Train) → Step
  train_lost : Step
  control_heard : (octets : List ℕ) → Step
  notified : Step  -- the next notice was asked for

pub record Answered : Type 0 where
  pub before : Snapshot
  pub done : Done

abbrev pub done_by : Setup → Snapshot → Step → Done
done_by setup snapshot (record_added entry) = recorded entry
done_by setup snapshot (locations_set locations) = located locations
done_by setup snapshot (contexts_set contexts) = opened contexts
done_by setup snapshot (sync_to_group big_sync) = tuned
done_by setup snapshot (written octets) = done_by_write snapshot octets
done_by setup snapshot (train_heard train) = done_by_outcome (outcome_by setup snapshot train)
done_by setup snapshot train_lost = lost
done_by setup snapshot (control_heard octets) = done_by_control snapshot.place octets
done_by setup snapshot _ = nothing

-- ---- a slot

abbrev pub source_by : ℕ → Done → Option (Option Source)
source_by slot (added other entry) = if other == slot then Some (Some entry.source) else None
source_by slot (removed other) = if other == slot then Some None else None
source_by slot _ = None

abbrev pub wanted_by : ℕ → Done → Option Wanted
wanted_by slot (added other entry) = if other == slot then Some entry.wanted else None
wanted_by slot (modified other wanted) = if other == slot then Some wanted else None
wanted_by slot _ = None

abbrev pub entry_from : Option Source → Wanted → Option Entry
entry_from None wanted = None
entry_from (Some source) wanted = Some (record { source = source; wanted = wanted })

abbrev pub unwanted : Wanted
unwanted = record { pa_sync = 0; wishes = [] }

abbrev pub source_in : List Answered → ℕ → Option Source
source_in steps slot = unwrap_or (last_given (λ step. source_by slot step.done) steps) None

abbrev pub wanted_in : List Answered → ℕ → Wanted
wanted_in steps slot = unwrap_or (last_given (λ step. wanted_by slot step.done) steps) unwanted

abbrev pub entry_in : List Answered → ℕ → Option Entry
entry_in steps slot = entry_from (source_in steps slot) (wanted_in steps slot)

-- ---- the place, and what goes with it

abbrev pub place_in : List Answered → Place
place_in steps = unwrap_or (last_given (λ step. place_given step.before step.done) steps) idle

-- a train of the slot that answered BadGroup or later says whether a Broadcast_Code is required; off its train and group none is
abbrev pub encryption_by : ℕ → Answered → Option Bool
encryption_by slot step = if is_on (place_after step.before step.done) slot then encryption_given step.done else Some false

abbrev pub encrypted_in : List Answered → ℕ → Bool
encrypted_in steps slot = unwrap_or (last_given (encryption_by slot) steps) false

abbrev pub encrypted_where : List Answered → Option ℕ → Bool
encrypted_where steps None = false
encrypted_where steps (Some slot) = encrypted_in steps slot

abbrev pub taken_in : List Answered → Place → List ℕ
taken_in steps (on_group (Some slot)) = unwrap_or (last_given (λ step. taken_given step.done) steps) []
taken_in steps _ = []

-- ---- the capability: the records in order, and what was set last; at first no location and all contexts

abbrev pub record_by : Done → List PacRecord
record_by (recorded entry) = entry ∷ []
record_by _ = []

abbrev pub records_in : List Answered → List PacRecord
records_in [] = []
records_in (step ∷ earlier) = records_in earlier ++ record_by step.done

abbrev pub locations_by : Done → Option ℕ
locations_by (located locations) = Some locations
locations_by _ = None

abbrev pub contexts_by : Done → Option ℕ
contexts_by (opened contexts) = Some contexts
contexts_by _ = None

abbrev pub capability_in : List Answered → Capability
capability_in steps = record {
  entries = records_in steps;
  locations = unwrap_or (last_given (λ step. locations_by step.done) steps) 0;
  contexts = unwrap_or (last_given (λ step. contexts_by step.done) steps) 0xFFFF;
}

-- ---- all of it

abbrev pub snapshot_in : ℕ → List Answered → Snapshot
snapshot_in slots steps = record {
  slots = map (entry_in steps) (range_with_len 0 slots);
  place = place_in steps;
  encrypted = encrypted_where steps (slot_of (place_in steps));
  taken = taken_in steps (place_in steps);
  capability = capability_in steps;
}

unfoldable pub answered : Setup → List Step → List Answered
answered setup [] = []
answered setup (step ∷ earlier) =
    let before = snapshot_in setup.slots (answered setup earlier) in
    record { before = before; done = done_by setup before step } ∷ answered setup earlier

abbrev pub snapshot_of : Setup → List Step → Snapshot
snapshot_of setup steps = snapshot_in setup.slots (answered setup steps)
