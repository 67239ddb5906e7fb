-- What is true of every slot that is filled, so that its state has octets.
use Rattle.std.specs.Prelude.{ℕ, ◌<◌, ◌≤◌, ◌^◌, List, length, Option, is_none, Bool}
use Rattle.std.specs.List.{AllByRecursion}
use Rattle.bass_operations.specs.declared.wishes.Wish.{Wish}
use Rattle.delegator_history.specs.declared.source.Source.{Source}
use Rattle.delegator_history.specs.Snapshots.{Entry}
use Rattle.delegator_history.specs.Trains.{is_wanted}
use Rattle.delegator_history.specs.Writes.{has_id, has_source}
use Rattle.delegator_choices.specs.declared.search.Sought.{Sought}
use Rattle.delegator_choices.specs.declared.search.Sought.TheVariants as seek

abbrev pub entry : Source → ℕ → List Wish → Entry
entry source pa_sync wishes = record { source = source; wanted = record { pa_sync = pa_sync; wishes = wishes } }

-- no value of its source is reserved, and each count is one octet
pub record EntryFits (entry : Entry) : Type 0 where
  pub address_type : entry.source.address_type ≤ 1
  pub sid : entry.source.sid ≤ 15
  pub few : length entry.wanted.wishes ≤ 255
  pub metadata : AllByRecursion (λ wish. length wish.metadata ≤ 255) entry.wanted.wishes

-- each is a set of streams
abbrev pub AreSets : List ℕ → Type 0
AreSets sets = AllByRecursion (λ set. set < 2 ^ 31) sets

-- what a slot is looked for by
abbrev pub meets : Sought → Option Entry → Bool
meets seek.Empty slot = is_none slot
meets (seek.SourceId source_id) slot = has_id source_id slot
meets (seek.Identity address_type sid broadcast_id) slot = has_source address_type sid broadcast_id slot
meets (seek.Wanted address_type sid broadcast_id) slot = is_wanted address_type sid broadcast_id slot
