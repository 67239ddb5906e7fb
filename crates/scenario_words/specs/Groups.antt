-- The pairs of words that are left of a line, as the subgroups of an operation (Broadcast Audio Scan Service 1.0, section 3.1.1.4).
use Rattle.std.specs.Prelude.{ℕ, ◌≡◌, List, length, Result, Ok}
use Rattle.std.specs.List.{flat_map}
use Rattle.bcast_base.specs.Layout.{laid}
use Rattle.bcast_base.specs.Subgroups.{subgroup_fields}
use Rattle.bass_operations.specs.Layout.{group_of}
use Rattle.bass_operations.specs.declared.wishes.Wish.{Wish}
use Rattle.scenario_words.specs.declared.fault.LineFault.{LineFault}
use Rattle.scenario_words.specs.Reading.{Left}

-- the octets of the subgroups
abbrev pub groups_octets : List Wish → List ℕ
groups_octets wishes = laid (flat_map (λ wish. subgroup_fields (group_of wish)) wishes)

-- pairs were read, so many, and these octets are their subgroups; the words that are left are these
pub record ReadsGroups (count : ℕ) (groups : List ℕ) (left : Left) (read : Result (List Wish × Left) LineFault) : Type 0 where
  pub wishes : List Wish
  pub is : read ≡ Ok (wishes, left)
  pub counted : length wishes ≡ count
  pub laid_as : groups ≡ groups_octets wishes
