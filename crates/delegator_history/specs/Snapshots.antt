-- What a Scan Delegator has at a time (Basic Audio Profile 1.0, section 6.5; Broadcast Audio Scan Service 1.0, sections
-- 3.1.1 and 3.2): the sources in its slots with what is wanted of them, and the train or the group that it is on. Slots count
-- from 0.
use Rattle.std.specs.Prelude.{ℕ, ◌==◌, Bool, false, List, Option, Some, None, slice_index_or}
use Rattle.bass_operations.specs.declared.wishes.Wish.{Wish}
use Rattle.pacs_records.specs.declared.capability.Capability.{Capability}
use Rattle.delegator_history.specs.declared.source.Source.{Source}

-- what the last accepted Add or Modify Source of a slot wants: PA_Sync, and BIS_Sync and metadata of each subgroup
pub record Wanted : Type 0 where
  pub pa_sync : ℕ
  pub wishes : List Wish

pub record Entry : Type 0 where
  pub source : Source
  pub wanted : Wanted

-- where the sink is: on the periodic advertising train of a slot's source, or on its group, or on a group of no slot
pub data Place : Type 0 where
  idle : Place
  on_train : (slot : ℕ) → Place
  on_group : (slot : Option ℕ) → Place

pub record Snapshot : Type 0 where
  pub slots : List (Option Entry)
  pub place : Place
  pub encrypted : Bool  -- of the slot whose train or group the sink is on: a Broadcast_Code is required
  pub taken : List ℕ  -- of the slot whose group the sink is on: the streams that it takes, a number for each subgroup
  pub capability : Capability

abbrev pub slot_of : Place → Option ℕ
slot_of idle = None
slot_of (on_train slot) = Some slot
slot_of (on_group slot) = slot

abbrev pub is_slot : Option ℕ → ℕ → Bool
is_slot None slot = false
is_slot (Some other) slot = other == slot

abbrev pub is_on : Place → ℕ → Bool
is_on place slot = is_slot (slot_of place) slot

abbrev pub is_on_group : Place → ℕ → Bool
is_on_group (on_group other) slot = is_slot other slot
is_on_group _ slot = false

abbrev pub entry_at : List (Option Entry) → ℕ → Option Entry
entry_at slots slot = slice_index_or slots slot None
