-- The subgroups of the Broadcast Audio Scan Service 1.0 (sections 3.1.1.4 and 3.2): a bit field of streams of four octets,
-- and metadata behind its length. Bit n stands for the BIS_index n + 1. Bit 31 is reserved for future use, but where all
-- bits are set.
use Rattle.std.specs.Prelude.{ℕ, zero, suc, ◌<◌, ◌^◌, List, [], ◌∷◌, ◌++◌, length, Option, Some, None, Bool, nat_lt, ◌==◌, ◌&&◌, not, if◌then◌else◌}
use Rattle.bcast_base.specs.Layout.{Field, free, unless}
use Rattle.bcast_base.specs.Reading.{number_in, counted_in, place_in}
use Rattle.bcast_base.specs.Encoding.{octet, number, counted}
use Rattle.bcast_base.specs.Steps.{◌>>=◌}

pub record Subgroup : Type 0 where
  pub bits : ℕ
  pub metadata : List ℕ

abbrev pub all_bits : ℕ
all_bits = 4294967295

abbrev pub is_reserved : ℕ → Bool
is_reserved bits = nat_lt 2147483647 bits && not (bits == all_bits)

abbrev pub subgroup_fields : Subgroup → List Field
subgroup_fields group = unless (is_reserved group.bits) (number 4 group.bits) ∷ free (octet (length group.metadata)) ∷ free group.metadata ∷ []

-- the octets of a subgroup
abbrev pub subgroup : Subgroup → List ℕ
subgroup group = number 4 group.bits ++ counted group.metadata

-- each has room for its bits and for the length of its metadata
pub record Fits (group : Subgroup) : Type 0 where
  pub bits : group.bits < 2 ^ 32
  pub metadata : length group.metadata < 256

unfoldable pub subgroup_in : List ℕ → Option (Subgroup × List ℕ)
subgroup_in octets = do
  bits ← number_in 4 octets
  metadata ← counted_in bits.1
  Some (record { bits = bits.0; metadata = metadata.0 }, metadata.1)

unfoldable pub subgroups_in : ℕ → List ℕ → Option (List Subgroup × List ℕ)
subgroups_in zero octets = Some ([], octets)
subgroups_in (suc count) octets = do first ← subgroup_in octets; others ← subgroups_in count first.1; Some (first.0 ∷ others.0, others.1)

-- the place of the first of so many subgroups whose bits are reserved, among the last octets of the whole
unfoldable pub reserved_in : List ℕ → ℕ → List ℕ → Option ℕ
reserved_in whole zero octets = None
reserved_in whole (suc count) octets = do
  first ← subgroup_in octets
  if is_reserved first.0.bits then Some (place_in whole octets) else reserved_in whole count first.1
