-- Reading an operation (Broadcast Audio Scan Service 1.0, section 3.1.1) field by field.
use Rattle.std.specs.Prelude.{ℕ, zero, suc, List, [], ◌∷◌, map, Option, Some, None, Result, Ok, Err, nat_lt, if◌then◌else◌, ◌<◌, length, IfOk}
use Rattle.bcast_base.specs.Layout.{reserved_from}
use Rattle.bcast_base.specs.Reading.{octet_in, octets_in, number_in}
use Rattle.bcast_base.specs.Steps.{◌>>=◌, whole}
use Rattle.bcast_base.specs.Subgroups.{Subgroup, subgroups_in}
use Rattle.bass_operations.specs.declared.fault.OpFault.{OpFault}
use Rattle.bass_operations.specs.declared.fault.OpFault.TheVariants.{Empty, Opcode, Length, Rfu, BisTwice}
use Rattle.bass_operations.specs.declared.fault.OpFault.TheVariants as faults
use Rattle.bass_operations.specs.declared.operation.AddSource.{AddSource}
use Rattle.bass_operations.specs.declared.operation.ModifySource.{ModifySource}
use Rattle.bass_operations.specs.declared.operation.Operation.{Operation}
use Rattle.bass_operations.specs.declared.operation.Operation.TheVariants.{ScanStopped, ScanStarted, Add, Modify, Code, Remove}
use Rattle.bass_operations.specs.declared.wishes.Wish.{Wish}
use Rattle.bass_operations.specs.Layout.{fields, wishes_of}
use Rattle.bass_operations.specs.Twice.{twice_of}

abbrev pub wish_of : Subgroup → Wish
wish_of group = record { bis_sync = group.bits; metadata = group.metadata }

-- an Add Source without its subgroups, their number, and the octets behind it
unfoldable pub add_head_in : List ℕ → Option (AddSource × ℕ × List ℕ)
add_head_in octets = do
  kind ← octet_in octets
  address ← octets_in 6 kind.1
  sid ← octet_in address.1
  id ← octets_in 3 sid.1
  sync ← octet_in id.1
  interval ← number_in 2 sync.1
  count ← octet_in interval.1
  Some (record { address_type = kind.0; address = address.0; sid = sid.0; broadcast_id = id.0; pa_sync = sync.0; pa_interval = interval.0; wishes = [] }, count.0, count.1)

unfoldable pub modify_head_in : List ℕ → Option (ModifySource × ℕ × List ℕ)
modify_head_in octets = do
  source ← octet_in octets
  sync ← octet_in source.1
  interval ← number_in 2 sync.1
  count ← octet_in interval.1
  Some (record { source_id = source.0; pa_sync = sync.0; pa_interval = interval.0; wishes = [] }, count.0, count.1)

unfoldable pub wishes_in : ℕ → List ℕ → Option (List Wish)
wishes_in count octets = do groups ← whole (subgroups_in count octets); Some (map wish_of groups)

unfoldable pub add_in : List ℕ → Option Operation
add_in octets = do head ← add_head_in octets; wishes ← wishes_in head.1 head.2; Some (Add (record head.0 { wishes = wishes }))

unfoldable pub modify_in : List ℕ → Option Operation
modify_in octets = do head ← modify_head_in octets; wishes ← wishes_in head.1 head.2; Some (Modify (record head.0 { wishes = wishes }))

unfoldable pub code_in : List ℕ → Option Operation
code_in octets = do source ← octet_in octets; code ← whole (octets_in 16 source.1); Some (Code source.0 code)

unfoldable pub remove_in : List ℕ → Option Operation
remove_in octets = do source ← whole (octet_in octets); Some (Remove source)

abbrev pub alone : Operation → List ℕ → Option Operation
alone op [] = Some op
alone op (octet ∷ rest) = None

unfoldable pub op_in : ℕ → List ℕ → Option Operation
op_in zero octets = alone ScanStopped octets
op_in (suc zero) octets = alone ScanStarted octets
op_in (suc (suc zero)) octets = add_in octets
op_in (suc (suc (suc zero))) octets = modify_in octets
op_in (suc (suc (suc (suc zero)))) octets = code_in octets
op_in (suc (suc (suc (suc (suc zero))))) octets = remove_in octets
op_in (suc (suc (suc (suc (suc (suc opcode)))))) octets = None

-- the place of the first reserved value before the subgroups
abbrev pub add_reserved : AddSource → Option ℕ
add_reserved add =
    if nat_lt 1 add.address_type then Some 1
    else (if nat_lt 15 add.sid then Some 8 else (if nat_lt 2 add.pa_sync then Some 12 else None))

abbrev pub first_fault : Option ℕ → Option ℕ → Option OpFault
first_fault (Some place) twice = Some (Rfu place)
first_fault None (Some bis) = Some (BisTwice bis)
first_fault None None = None

abbrev pub fault_of : Operation → Option OpFault
fault_of op = first_fault (reserved_from 0 (fields op)) (twice_of (wishes_of op))

abbrev pub answered : Operation → Option OpFault → Result Operation OpFault
answered op (Some fault) = Err fault
answered op None = Ok op

abbrev pub judged : Option Operation → Result Operation OpFault
judged None = Err Length
judged (Some op) = answered op (fault_of op)

abbrev pub op_of : List ℕ → Result Operation OpFault
op_of [] = Err Empty
op_of (opcode ∷ octets) = if nat_lt 5 opcode then Err Opcode else judged (op_in opcode octets)

-- what a fault says of the octets: nothing, where memory ran out for an operation
abbrev pub told : OpFault → Option OpFault
told faults.Memory = None
told fault = Some fault

-- memory is wanted only for the subgroups of an operation
abbrev pub WantsFor : OpFault → Result Operation OpFault → Type 0
WantsFor faults.Memory read = IfOk read (λ op. 0 < length (wishes_of op))
WantsFor fault read = Unit {0}
