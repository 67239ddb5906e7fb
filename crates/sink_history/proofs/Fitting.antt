-- What a sink has fits the octets of its states, whatever octets were written to it.
use Rattle.sink_history.proofs.Prelude.{ℕ, zero, suc, ◌≡◌, ◌+◌, ◌<◌, ◌≤◌, ◌^◌, Bool, List, [], ◌∷◌, ◌++◌, length, map, Option, Some, None, Result, Ok, refl, sym, ap, subst, arith, slice_set, if◌then◌else◌, is_some, AllByRecursion, flat_map, range_with_len, ltb-false, laid, IsOctets, subgroup_fields, IsOctets-prefix, IsOctets-rest, Operation, Wish, OpIs, WishFits, group_of, Entry, Place, Snapshot, Wanted, idle, on_group, on_train, length-set}
use Rattle.bcast_base.specs.Encoding.{number}
use Rattle.bass_operations.specs.declared.fault.OpFault.{OpFault}
use Rattle.bass_operations.specs.declared.operation.AddSource.{AddSource}
use Rattle.bass_operations.specs.declared.operation.ModifySource.{ModifySource}
use Rattle.bass_operations.specs.declared.operation.Operation.TheVariants.{ScanStopped, ScanStarted, Add, Modify, Code, Remove}
use Rattle.delegator_history.specs.declared.replies.Cause.{Cause}
use Rattle.delegator_history.specs.declared.source.Source.{Source}
use Rattle.delegator_history.specs.Snapshots.{entry_at}
use Rattle.delegator_history.specs.Steps.{Done, added, modified, joined, after, slots_after, taken_on, wanting}
use Rattle.delegator_history.specs.Writes.{done_read, entry_of, operated, slot_with, unused_from}
use Rattle.sink_history.proofs.OctetLists.{octets_behind}

-- ---- what fits

pub record SourceIs (source : Source) : Type 0 where
  pub source_id : source.source_id < 256
  pub address_type : source.address_type ≤ 1
  pub address : length source.address ≡ 6
  pub address_octets : IsOctets source.address
  pub sid : source.sid ≤ 15
  pub broadcast_id : length source.broadcast_id ≡ 3
  pub broadcast_id_octets : IsOctets source.broadcast_id

abbrev pub MetadataIs : Wish → Type 0
MetadataIs wish = (length wish.metadata ≤ 255) × IsOctets wish.metadata

pub record WishesAre (wishes : List Wish) : Type 0 where
  pub few : length wishes ≤ 255
  pub metadata : AllByRecursion MetadataIs wishes

pub record EntryIs (entry : Entry) : Type 0 where
  pub source : SourceIs entry.source
  pub wishes : WishesAre entry.wanted.wishes

abbrev pub SlotIs : Option Entry → Type 0
SlotIs None = Unit {0}
SlotIs (Some entry) = EntryIs entry

abbrev pub AreSets : List ℕ → Type 0
AreSets sets = AllByRecursion (λ set. set < 2 ^ 31) sets

pub record SnapshotIs (n : ℕ) (snapshot : Snapshot) : Type 0 where
  pub count : length snapshot.slots ≡ n
  pub slots : AllByRecursion SlotIs snapshot.slots
  pub taken : AreSets snapshot.taken

abbrev pub DoneIs : Done → Type 0
DoneIs (added slot entry) = EntryIs entry
DoneIs (modified slot wanted) = WishesAre wanted.wishes
DoneIs (joined slot encrypted taken) = AreSets taken
DoneIs _ = Unit {0}

-- ---- a step keeps to it

set_is : (slots : List (Option Entry)) (at : ℕ) (new : Option Entry) → SlotIs new → AllByRecursion SlotIs slots → AllByRecursion SlotIs (slice_set slots at new)
set_is (slot ∷ slots) (suc at) new is are = (are.0, set_is slots at new is are.1)
set_is slots at new is are = search

pub entry_is : (slots : List (Option Entry)) (at : ℕ) → AllByRecursion SlotIs slots → SlotIs (entry_at slots at)
entry_is (slot ∷ slots) (suc at) are = entry_is slots at are.1
entry_is slots at are = search

wanting_is : (wanted : Wanted) (slot : Option Entry) → WishesAre wanted.wishes → SlotIs slot → SlotIs (wanting wanted slot)
wanting_is wanted slot wishes is = grind arith

slots_are : (done : Done) (slots : List (Option Entry)) → DoneIs done → AllByRecursion SlotIs slots → AllByRecursion SlotIs (slots_after done slots)
slots_are _ slots is are = grind (arith, set_is, wanting_is, entry_is)

abbrev GivenAre : Option (List ℕ) → Type 0
GivenAre None = Unit {0}
GivenAre (Some sets) = AreSets sets

taken_are : (place : Place) (given : Option (List ℕ)) (old : List ℕ) → GivenAre given → AreSets old → AreSets (taken_on place given old)
taken_are idle given old new are = tt
taken_are (on_train slot) given old new are = tt
taken_are (on_group None) given old new are = tt
taken_are (on_group (Some slot)) None old new are = are
taken_are (on_group (Some slot)) (Some sets) old new are = new

pub after_is : (n : ℕ) (done : Done) (snapshot : Snapshot) → DoneIs done → SnapshotIs n snapshot → SnapshotIs n (after done snapshot)
after_is n done snapshot new is = grind (arith, taken_are, length-set, slots_are)

-- ---- an operation that was read

abbrev OperationIs : Operation → Type 0
OperationIs (Add add) = (source_id : ℕ) → source_id < 256 → EntryIs (entry_of source_id add)
OperationIs (Modify modify) = WishesAre modify.wishes
OperationIs _ = Unit {0}

metadata_are : (wishes : List Wish) → AllByRecursion WishFits wishes → IsOctets (laid (flat_map (λ wish. subgroup_fields (group_of wish)) wishes))
    → AllByRecursion MetadataIs wishes
metadata_are [] fit octets = tt
metadata_are (wish ∷ wishes) fit octets =
    let rest : List ℕ = laid (flat_map (λ wish. subgroup_fields (group_of wish)) wishes) in
    let counted : IsOctets (length wish.metadata ∷ (wish.metadata ++ rest)) =
    octets_behind (number 4 wish.bis_sync) (length wish.metadata ∷ (wish.metadata ++ rest)) octets in
    let behind : IsOctets (wish.metadata ++ rest) = IsOctets-rest (length wish.metadata) (wish.metadata ++ rest) counted in
    ((fit.0.metadata, IsOctets-prefix wish.metadata rest behind), metadata_are wishes fit.1 (octets_behind wish.metadata rest behind))

add_is : (add : AddSource) (octets : List ℕ) → IsOctets octets → OpIs (Add add) octets → OperationIs (Add add)
add_is add octets are is =
    let wishes : List ℕ = laid (flat_map (λ wish. subgroup_fields (group_of wish)) add.wishes) in
    let back : List ℕ = length add.wishes ∷ wishes in
    let interval : List ℕ = number 2 add.pa_interval ++ back in
    let id : List ℕ = add.broadcast_id ++ (add.pa_sync ∷ interval) in
    let address : List ℕ = add.address ++ (add.sid ∷ id) in
    let all : IsOctets (2 ∷ add.address_type ∷ address) = subst IsOctets is.layout.encoded are in
    let at_address : IsOctets address = IsOctets-rest add.address_type address (IsOctets-rest 2 (add.address_type ∷ address) all) in
    let at_id : IsOctets id = IsOctets-rest add.sid id (octets_behind add.address (add.sid ∷ id) at_address) in
    let at_interval : IsOctets interval = IsOctets-rest add.pa_sync interval (octets_behind add.broadcast_id (add.pa_sync ∷ interval) at_id) in
    let at_wishes : IsOctets wishes = IsOctets-rest (length add.wishes) wishes (octets_behind (number 2 add.pa_interval) back at_interval) in
    let widths = is.layout.widths in
    λ source_id small. record {
      source = record {
        source_id = small;
        address_type = ltb-false 1 add.address_type is.values.1.0;
        address = widths.address;
        address_octets = IsOctets-prefix add.address (add.sid ∷ id) at_address;
        sid = ltb-false 15 add.sid is.values.1.1.1.0;
        broadcast_id = widths.broadcast_id;
        broadcast_id_octets = IsOctets-prefix add.broadcast_id (add.pa_sync ∷ interval) at_id;
      };
      wishes = record { few = widths.wishes.0; metadata = metadata_are add.wishes widths.wishes.1 at_wishes };
    }

modify_is : (modify : ModifySource) (octets : List ℕ) → IsOctets octets → OpIs (Modify modify) octets → OperationIs (Modify modify)
modify_is modify octets are is =
    let wishes : List ℕ = laid (flat_map (λ wish. subgroup_fields (group_of wish)) modify.wishes) in
    let back : List ℕ = length modify.wishes ∷ wishes in
    let interval : List ℕ = number 2 modify.pa_interval ++ back in
    let all : IsOctets (3 ∷ modify.source_id ∷ modify.pa_sync ∷ interval) = subst IsOctets is.layout.encoded are in
    let at_interval : IsOctets interval = IsOctets-rest modify.pa_sync interval
    (IsOctets-rest modify.source_id (modify.pa_sync ∷ interval) (IsOctets-rest 3 (modify.source_id ∷ modify.pa_sync ∷ interval) all)) in
    let at_wishes : IsOctets wishes = IsOctets-rest (length modify.wishes) wishes (octets_behind (number 2 modify.pa_interval) back at_interval) in
    record { few = is.layout.widths.wishes.0; metadata = metadata_are modify.wishes is.layout.widths.wishes.1 at_wishes }

pub operation_is : (op : Operation) (octets : List ℕ) → IsOctets octets → OpIs op octets → OperationIs op
operation_is (Add add) octets are is = add_is add octets are is
operation_is (Modify modify) octets are is = modify_is modify octets are is
operation_is ScanStopped octets are is = tt
operation_is ScanStarted octets are is = tt
operation_is (Code source_id code) octets are is = tt
operation_is (Remove source_id) octets are is = tt

chosen_most : (b : Bool) (x y most : ℕ) → x ≤ most → y ≤ most → (if b then x else y) ≤ most
chosen_most b x y most of_x of_y = grind arith

unused_most : (others source_id : ℕ) (slots : List (Option Entry)) → unused_from others source_id slots ≤ source_id + others
unfolding unused_from
unused_most zero source_id slots = omega arith
unused_most (suc others) source_id slots =
    let later : unused_from others (source_id + 1) slots ≤ source_id + 1 + others = unused_most others (source_id + 1) slots in
    chosen_most (is_some (slot_with source_id slots)) (unused_from others (source_id + 1) slots) source_id (source_id + suc others)
    (omega (arith, later)) (omega arith)

operated_is : (n : ℕ) (slots : List (Option Entry)) (op : Operation) → length slots ≡ n → n < 256 → OperationIs op → DoneIs (operated slots op)
operated_is n slots op count few is = grind (arith, length, unused_most)

pub read_done_is : (n : ℕ) (snapshot : Snapshot) (read : Result Operation OpFault) (cause : Option Cause) → length snapshot.slots ≡ n → n < 256
    → ((op : Operation) → read ≡ Ok op → OperationIs op) → DoneIs (done_read snapshot read cause)
read_done_is n snapshot read cause count few is = grind (arith, operated_is)

-- ---- a new sink

pub no_entries : (f : ℕ → Option Entry) (start n : ℕ) → ((i : ℕ) → f i ≡ None) → AllByRecursion SlotIs (map f (range_with_len start n))
no_entries f start zero none = tt
no_entries f start (suc n) none = (subst SlotIs (sym (none start)) tt, no_entries f (start + 1) n none)

pub entries_count : (f : ℕ → Option Entry) (start n : ℕ) → length (map f (range_with_len start n)) ≡ n
entries_count f start zero = refl
entries_count f start (suc n) = ap suc (entries_count f (start + 1) n)
