-- What an operation is answered, and what it makes of a Scan Delegator (Broadcast Audio Scan Service 1.0, section 3.1.1).
use Rattle.std.specs.Prelude.{◌≡◌, ◌||◌, Bool, true, false, List, length, nat_lt, Option, Some, None, is_none, Result, Ok, Err}
use Rattle.bass_operations.specs.declared.fault.OpFault.{OpFault}
use Rattle.bass_operations.specs.declared.operation.Operation.{Operation}
use Rattle.bass_operations.specs.declared.operation.Operation.TheVariants.{Add, Modify, Remove}
use Rattle.bass_operations.specs.declared.wishes.Wish.{Wish}
use Rattle.bcast_base.specs.declared.memory.Memory.{Memory}
use Rattle.delegator_history.specs.declared.replies.Cause.{Cause}
use Rattle.delegator_history.specs.declared.replies.Cause.TheVariants.{ValueTooLong}
use Rattle.delegator_history.specs.declared.replies.Reply.{Reply}
use Rattle.delegator_history.specs.Snapshots.{Snapshot}
use Rattle.delegator_history.specs.Writes.{cause_read, reply_by, done_read}
use Rattle.delegator_control.specs.State.Machines.{Machine, moved}

-- the value of a slot was made: it is told, or it is too long
abbrev pub has_value : Option Cause → Bool
has_value None = true
has_value (Some ValueTooLong) = true
has_value (Some cause) = false

-- something is kept for a source: a wish for a subgroup, or the value of its slot
abbrev pub is_kept : List Wish → Option Cause → Bool
is_kept wishes cause = nat_lt 0 (length wishes) || has_value cause

-- memory may be wanted for an operation with this first cause: for what an Add or a Modify Source keeps, and for the notice
-- of a Remove Source that is accepted
abbrev pub wants_for : Operation → Option Cause → Bool
wants_for (Add add) cause = is_kept add.wishes cause
wants_for (Modify modify) cause = is_kept modify.wishes cause
wants_for (Remove source_id) cause = is_none cause
wants_for op cause = false

-- memory may be wanted for octets that are read so; octets that are no operation want none
abbrev pub wants_memory : Snapshot → Result Operation OpFault → Bool
wants_memory snapshot (Err fault) = false
wants_memory snapshot (Ok op) = wants_for op (cause_read snapshot (Ok op))

-- the reply by the first cause that holds; an accepted operation is done, and a refused one changes nothing
pub record Replies (op : Operation) (before after : Machine) (told : Reply) : Type 0 where
  pub reply : told ≡ reply_by (cause_read before.snapshot (Ok op))
  pub step : after ≡ moved (done_read before.snapshot (Ok op) (cause_read before.snapshot (Ok op))) before

-- or memory ran out where some was wanted, and nothing changed
abbrev pub Serves : Operation → Machine → Machine → Result Reply Memory → Type 0
Serves op before after (Ok reply) = Replies op before after reply
Serves op before after (Err memory) = (after ≡ before) × (wants_for op (cause_read before.snapshot (Ok op)) ≡ true)
