-- What C asks of the subgroups of a source: the bits of each, and the metadata of all, each behind one octet that counts it.
use Rattle.std.specs.Prelude.{ℕ, ◌+◌, ◌*◌, List, [], ◌∷◌, length, Bool, not, Option, Some, None}
use Rattle.std.specs.List.{list_all}
use Rattle.bcast_base.specs.Reading.{counted_in}
use Rattle.bcast_base.specs.Steps.{◌>>=◌}
use Rattle.bcast_base.specs.Subgroups.{is_reserved}
use Rattle.bass_operations.specs.declared.operation.Operation.{Operation}
use Rattle.bass_operations.specs.declared.operation.Operation.TheVariants.{Add, Modify}
use Rattle.bass_operations.specs.declared.wishes.Wish.{Wish}

abbrev pub wish : ℕ → List ℕ → Wish
wish bits metadata = record { bis_sync = bits; metadata = metadata }

-- what is wanted of each subgroup; nothing where the octets are the metadata of fewer subgroups, or of more
unfoldable pub wishes_in : List ℕ → List ℕ → Option (List Wish)
wishes_in [] [] = Some []
wishes_in [] (octet ∷ rest) = None
wishes_in (bits ∷ others) octets = do
  metadata ← counted_in octets
  wishes ← wishes_in others metadata.1
  Some (wish bits metadata.0 ∷ wishes)

-- no bits have a reserved value
abbrev pub are_free : List ℕ → Bool
are_free bis_sync = list_all (λ bits. not (is_reserved bits)) bis_sync

-- an Add Source
abbrev pub added : (address_type : ℕ) → (address : List ℕ) → (sid : ℕ) → (broadcast_id : List ℕ) → (pa_sync pa_interval : ℕ) → List Wish → Operation
added address_type address sid broadcast_id pa_sync pa_interval wishes = Add (record {
  address_type = address_type;
  address = address;
  sid = sid;
  broadcast_id = broadcast_id;
  pa_sync = pa_sync;
  pa_interval = pa_interval;
  wishes = wishes;
})

-- a Modify Source
abbrev pub modified : (source_id pa_sync pa_interval : ℕ) → List Wish → Operation
modified source_id pa_sync pa_interval wishes =
    Modify (record { source_id = source_id; pa_sync = pa_sync; pa_interval = pa_interval; wishes = wishes })

-- how many octets an operation has: so many before its subgroups, the bits of each, and the metadata
abbrev pub octet_count : ℕ → List ℕ → List ℕ → ℕ
octet_count prefix bis_sync metadata = prefix + 4 * length bis_sync + length metadata
