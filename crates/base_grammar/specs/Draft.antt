-- A BASE that is put together: subgroups one after the other, and the entries of each behind it, before the next
-- subgroup (Basic Audio Profile 1.0, section 3.7.2.2). The last subgroup alone may have no entry yet.
use Rattle.std.specs.Prelude.{ℕ, ◌<◌, ◌^◌, ◌≡◌, ◌==◌, Bool, false, List, [], ◌∷◌, ◌++◌, length, Option, Some, None, Result, Ok, Err, nat_lt, if◌then◌else◌}
use Rattle.std.specs.List.{AllByRecursion}
use Rattle.base_grammar.specs.declared.fault.DraftFault.{DraftFault}
use Rattle.base_grammar.specs.declared.fault.DraftFault.TheVariants.{NoSubgroup, NoBis, IndexTwice, TooLong, Memory}
use Rattle.base_grammar.specs.declared.subgroup.BaseEntry.{BaseEntry}
use Rattle.base_grammar.specs.declared.subgroup.Subgroup.{Subgroup}
use Rattle.base_grammar.specs.Layout.{Endpoint, endpoint, indices, stands_in, encoding, AreNew, HasEntry, SubgroupFits}

abbrev pub last_of : List Subgroup → Option Subgroup
last_of [] = None
last_of (s ∷ []) = Some s
last_of (s ∷ other ∷ others) = last_of (other ∷ others)

-- all subgroups but the last
abbrev pub closed : List Subgroup → List Subgroup
closed [] = []
closed (s ∷ []) = []
closed (s ∷ other ∷ others) = s ∷ closed (other ∷ others)

-- the last subgroup is changed
abbrev pub with_last : (Subgroup → Subgroup) → List Subgroup → List Subgroup
with_last change [] = []
with_last change (s ∷ []) = change s ∷ []
with_last change (s ∷ other ∷ others) = s ∷ with_last change (other ∷ others)

-- what every draft keeps
pub record IsDraft (v : Endpoint) : Type 0 where
  pub delay : v.delay < 2 ^ 24
  pub streams : AllByRecursion HasEntry (closed v.subgroups)
  pub fits : AllByRecursion SubgroupFits v.subgroups
  pub once : AreNew [] (indices v.subgroups)

-- a subgroup without entries and metadata
abbrev pub opened : List ℕ → List ℕ → Subgroup
opened codec config = record { codec = codec; config = config; metadata = []; entries = [] }

abbrev pub with_subgroup : Subgroup → Endpoint → Endpoint
with_subgroup s v = endpoint v.delay (v.subgroups ++ s ∷ [])

abbrev pub with_metadata : List ℕ → Endpoint → Endpoint
with_metadata metadata v = endpoint v.delay (with_last (λ s. record s { metadata = metadata }) v.subgroups)

abbrev pub with_entry : BaseEntry → Endpoint → Endpoint
with_entry e v = endpoint v.delay (with_last (λ s. record s { entries = s.entries ++ e ∷ [] }) v.subgroups)

-- ---- refusals

abbrev pub is_empty_last : Option Subgroup → Bool
is_empty_last None = false
is_empty_last (Some s) = length s.entries == 0

abbrev pub empty_fault : Option Subgroup → Option DraftFault
empty_fault last = if is_empty_last last then Some NoBis else None

abbrev pub subgroup_fault : List Subgroup → Option DraftFault
subgroup_fault subgroups = empty_fault (last_of subgroups)

-- there is no subgroup yet
abbrev pub metadata_fault : List Subgroup → Option DraftFault
metadata_fault [] = Some NoSubgroup
metadata_fault (s ∷ others) = None

-- the same, or the index stands
abbrev pub entry_fault : List Subgroup → ℕ → Option DraftFault
entry_fault [] bis = Some NoSubgroup
entry_fault (s ∷ others) bis = if stands_in (indices (s ∷ others)) bis then Some IndexTwice else None

-- the first refusal, of the subgroups and of the octets
abbrev pub size_fault : Option DraftFault → ℕ → Option DraftFault
size_fault (Some fault) octets = Some fault
size_fault None octets = if nat_lt 252 octets then Some TooLong else None

abbrev pub draft_fault : List Subgroup → ℕ → Option DraftFault
draft_fault [] octets = Some NoSubgroup
draft_fault (s ∷ others) octets = size_fault (empty_fault (last_of (s ∷ others))) octets

abbrev pub finish_fault : Endpoint → Option DraftFault
finish_fault v = draft_fault v.subgroups (length (encoding v))

-- a step is refused exactly so, but that memory may be wanting
abbrev pub Refuses : Option DraftFault → Result (Unit {0}) DraftFault → Type 0
Refuses (Some fault) result = result ≡ Err fault
Refuses None (Ok _) = Unit {0}
Refuses None (Err fault) = fault ≡ Memory
