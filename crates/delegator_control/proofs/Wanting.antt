-- When memory may be wanted: for an operation that keeps something, or what a train announces as BASE is one.
use Rattle.delegator_control.proofs.Prelude.{ℕ, ◌≡◌, ◌<◌, Bool, true, List, length, Option, Some, None, Result, Ok, ap, arith, ◌||◌, nat_lt, is_none, if◌then◌else◌, IsOk, OnErr, lt-ltb, BaseFault, Endpoint, base_of, OpFault, Operation, Wish, op_of, BigFault, GroupFault, BigInfo, info_of, first_fault, Finds, Capability, Setup, Train, TrainOutcome, are_none, big_info_in, by_base, by_big_info, by_endpoint, by_group, by_info, first_candidates, Reply, Snapshot, cause_of_fault, cause_read, Serves, has_value, wants_memory, Machine}
use Rattle.bass_operations.specs.Faults.{IsFault}
use Rattle.bass_operations.specs.Layout.{OpIs}
use Rattle.bcast_base.specs.declared.memory.Memory.{Memory}
use Rattle.delegator_control.specs.Following.{has_base}

pub on_any_err : {T E P : Type 0} (result : Result T E) → P → OnErr result P
on_any_err result p = grind arith

-- ---- what is read

pub is_read : {Y E : Type 0} (fault : Option E) (read : Result Y E) → is_none fault ≡ true → Finds fault read → IsOk read
is_read fault read none finds = grind arith

some_kept : (count : ℕ) → 0 < count → (b : Bool) → (nat_lt 0 count || b) ≡ true
some_kept count some b = ap (λ any. any || b) (lt-ltb 0 count some)

-- memory is wanted for an operation that is read where one of its subgroups is kept
pub fault_wants : (fault : OpFault) (octets : List ℕ) (snapshot : Snapshot) → cause_of_fault fault ≡ None → IsFault fault octets
    → ((op : Operation) → OpIs op octets → op_of octets ≡ Ok op) → wants_memory snapshot (op_of octets) ≡ true
fault_wants fault octets snapshot none is reads = grind (arith, wants_memory, some_kept, length, has_value, cause_read)

-- what an operation wants that is served
pub served_wants : (op : Operation) (octets : List ℕ) (before after : Machine) (result : Result Reply Memory) → op_of octets ≡ Ok op → Serves op before after result
    → OnErr result (wants_memory before.snapshot (op_of octets) ≡ true)
served_wants op octets before after result read serves = grind (arith, wants_memory)

-- ---- the stages behind the BASE

of_choice : (b : Bool) (one other : TrainOutcome) → has_base one ≡ true → has_base other ≡ true → has_base (if b then one else other) ≡ true
of_choice b one other p q = grind arith

of_group : (setup : Setup) (capability : Capability) (wishes : List Wish) (slot : ℕ) (train : Train) (base : Endpoint) (info : BigInfo) (encrypted : Bool) (fault : Option GroupFault)
    → has_base (by_group setup capability wishes slot train base info encrypted fault) ≡ true
of_group setup capability wishes slot train base info encrypted fault = grind (arith, of_choice, are_none, first_candidates)

of_info : (setup : Setup) (capability : Capability) (wishes : List Wish) (slot : ℕ) (train : Train) (base : Endpoint) (encrypted : Bool) (info : Result BigInfo BigFault)
    → has_base (by_info setup capability wishes slot train base encrypted info) ≡ true
of_info setup capability wishes slot train base encrypted info = grind (arith, of_group, first_fault)

of_big_info : (setup : Setup) (capability : Capability) (wishes : List Wish) (slot : ℕ) (train : Train) (base : Endpoint) (octets : Option (List ℕ))
    → has_base (by_big_info setup capability wishes slot train base octets) ≡ true
of_big_info setup capability wishes slot train base octets = grind (arith, of_info, length, info_of)

of_endpoint : (setup : Setup) (capability : Capability) (wishes : List Wish) (slot : ℕ) (train : Train) (base : Result Endpoint BaseFault) → IsOk base
    → has_base (by_endpoint setup capability wishes slot train base) ≡ true
of_endpoint setup capability wishes slot train base read = grind (arith, of_big_info, big_info_in)

pub of_base : (setup : Setup) (capability : Capability) (wishes : List Wish) (slot : ℕ) (train : Train) (announced : Option (List ℕ)) (octets : List ℕ)
    → announced ≡ Some octets → IsOk (base_of octets) → has_base (by_base setup capability wishes slot train announced) ≡ true
of_base setup capability wishes slot train announced octets is read = grind (arith, by_base, of_endpoint, base_of)
