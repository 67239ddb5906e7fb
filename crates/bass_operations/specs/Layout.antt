-- The operations of the Broadcast Audio Scan Control Point (Broadcast Audio Scan Service 1.0, section 3.1.1): an opcode,
-- and the fields of the operation behind it.
use Rattle.std.specs.Prelude.{ℕ, ◌≡◌, ◌<◌, ◌≤◌, ◌^◌, List, [], ◌∷◌, length, nat_lt}
use Rattle.std.specs.List.{flat_map, AllByRecursion}
use Rattle.bcast_base.specs.Layout.{Field, free, unless, laid, NoneReserved}
use Rattle.bcast_base.specs.Encoding.{octet, number}
use Rattle.bcast_base.specs.Subgroups.{Subgroup, subgroup_fields}
use Rattle.bass_operations.specs.declared.operation.AddSource.{AddSource}
use Rattle.bass_operations.specs.declared.operation.ModifySource.{ModifySource}
use Rattle.bass_operations.specs.declared.operation.Operation.{Operation}
use Rattle.bass_operations.specs.declared.operation.Operation.TheVariants.{ScanStopped, ScanStarted, Add, Modify, Code, Remove}
use Rattle.bass_operations.specs.declared.wishes.Wish.{Wish}
use Rattle.bass_operations.specs.Twice.{NoneTwice}

abbrev pub group_of : Wish → Subgroup
group_of wish = record { bits = wish.bis_sync; metadata = wish.metadata }

-- Num_Subgroups, and the subgroups
abbrev pub wishes_fields : List Wish → List Field
wishes_fields wishes = free (octet (length wishes)) ∷ flat_map (λ wish. subgroup_fields (group_of wish)) wishes

abbrev pub add_fields : AddSource → List Field
add_fields add =
    unless (nat_lt 1 add.address_type) (octet add.address_type) ∷ free add.address ∷ unless (nat_lt 15 add.sid) (octet add.sid) ∷ free add.broadcast_id ∷
    unless (nat_lt 2 add.pa_sync) (octet add.pa_sync) ∷ free (number 2 add.pa_interval) ∷ wishes_fields add.wishes

abbrev pub modify_fields : ModifySource → List Field
modify_fields modify =
    free (octet modify.source_id) ∷ unless (nat_lt 2 modify.pa_sync) (octet modify.pa_sync) ∷ free (number 2 modify.pa_interval) ∷ wishes_fields modify.wishes

abbrev pub fields : Operation → List Field
fields ScanStopped = free (octet 0) ∷ []
fields ScanStarted = free (octet 1) ∷ []
fields (Add add) = free (octet 2) ∷ add_fields add
fields (Modify modify) = free (octet 3) ∷ modify_fields modify
fields (Code source_id code) = free (octet 4) ∷ free (octet source_id) ∷ free code ∷ []
fields (Remove source_id) = free (octet 5) ∷ free (octet source_id) ∷ []

abbrev pub encoding : Operation → List ℕ
encoding op = laid (fields op)

abbrev pub wishes_of : Operation → List Wish
wishes_of (Add add) = add.wishes
wishes_of (Modify modify) = modify.wishes
wishes_of _ = []

-- the length of each metadata is one octet
abbrev pub MetadataFits : List Wish → Type 0
MetadataFits wishes = AllByRecursion (λ wish. length wish.metadata ≤ 255) wishes

-- the widths of a subgroup
pub record WishFits (wish : Wish) : Type 0 where
  pub bis_sync : wish.bis_sync < 2 ^ 32
  pub metadata : length wish.metadata ≤ 255

abbrev pub WishesFit : List Wish → Type 0
WishesFit wishes = (length wishes ≤ 255) × AllByRecursion WishFits wishes

pub record AddFits (add : AddSource) : Type 0 where
  pub address : length add.address ≡ 6
  pub broadcast_id : length add.broadcast_id ≡ 3
  pub pa_interval : add.pa_interval < 2 ^ 16
  pub wishes : WishesFit add.wishes

pub record ModifyFits (modify : ModifySource) : Type 0 where
  pub pa_interval : modify.pa_interval < 2 ^ 16
  pub wishes : WishesFit modify.wishes

-- each field has its width
abbrev pub FitsWidths : Operation → Type 0
FitsWidths ScanStopped = Unit {0}
FitsWidths ScanStarted = Unit {0}
FitsWidths (Add add) = AddFits add
FitsWidths (Modify modify) = ModifyFits modify
FitsWidths (Code source_id code) = length code ≡ 16
FitsWidths (Remove source_id) = Unit {0}

-- the octets are the fields of the operation, reserved values and streams that stand twice among them
pub record IsLaid (op : Operation) (octets : List ℕ) : Type 0 where
  pub widths : FitsWidths op
  pub encoded : octets ≡ encoding op

-- the octets are the operation
pub record OpIs (op : Operation) (octets : List ℕ) : Type 0 where
  pub layout : IsLaid op octets
  pub values : NoneReserved (fields op)
  pub streams : NoneTwice (wishes_of op)
