-- What an operation that was read is known to keep to, and how a slot is filled.
use Rattle.std.specs.Prelude.{ℕ, ◌≡◌, ◌≤◌, ◌++◌, Bool, true, false, List, length, Option, Some, nat_lt, slice_set, Result, Ok, Err}
use Rattle.std.specs.List.{AllByRecursion}
use Rattle.bass_operations.specs.declared.operation.Operation.{Operation}
use Rattle.bass_operations.specs.declared.operation.Operation.TheVariants.{Add, Modify}
use Rattle.bcast_base.specs.declared.memory.Memory.{Memory}
use Rattle.delegator_history.specs.declared.notice.Notice.{Notice}
use Rattle.delegator_history.specs.Notices.{change}
use Rattle.delegator_history.specs.Snapshots.{Entry}
use Rattle.delegator_history.specs.Writes.{entry_of}
use Rattle.delegator_choices.specs.State.Slots.{EntryFits}

-- what it wants has a state with octets
abbrev pub OpFits : Operation → Type 0
OpFits (Add add) = (source_id : ℕ) → EntryFits (entry_of source_id add)
OpFits (Modify modify) = (length modify.wishes ≤ 255) × AllByRecursion (λ wish. length wish.metadata ≤ 255) modify.wishes
OpFits _ = Unit {0}

-- a slot with a value of at most 512 octets is filled, and gets a notice where its value changes; else nothing changes
abbrev pub Puts : List ℕ → ℕ → Entry → List ℕ → List (Option Entry) → List (Option Entry) → List Notice → List Notice → Result Bool Memory → Type 0
Puts value slot entry before slots slots_now waiting waiting_now (Ok true) =
    (nat_lt 512 (length value) ≡ false) × (slots_now ≡ slice_set slots slot (Some entry)) × (waiting_now ≡ waiting ++ change slot before value)
Puts value slot entry before slots slots_now waiting waiting_now (Ok false) = (nat_lt 512 (length value) ≡ true) × (slots_now ≡ slots) × (waiting_now ≡ waiting)
Puts value slot entry before slots slots_now waiting waiting_now (Err memory) = (slots_now ≡ slots) × (waiting_now ≡ waiting)
