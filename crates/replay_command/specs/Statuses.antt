-- What the program makes of a status: its exit status, and what it says on standard error. Both are this project's own.
use Rattle.std.specs.Prelude.{ℕ, List, Option, None, Some, Result, Ok, Err, codes}
use Rattle.transcript_text.specs.declared.refusal.Refusal.TheVariants.{TextTooLong}
use Rattle.replay_generated.specs.declared.outcome.Outcome.{Outcome}
use Rattle.replay_generated.specs.declared.outcome.Outcome.TheVariants as outcomes
use Rattle.replay_lines.specs.declared.ending.Ending.{Ending}
use Rattle.replay_lines.specs.declared.ending.Ending.TheVariants as endings
use Rattle.replay_migration.specs.declared.migration.Migration.{Migration}
use Rattle.replay_migration.specs.declared.migration.Migration.TheVariants as ends
use Rattle.replay_lines.specs.Standing.{reason_of}
use Rattle.replay_lines.specs.declared.cause.Cause.{Cause}
use Rattle.replay_command.specs.declared.status.Status.{Status}
use Rattle.replay_command.specs.declared.status.Status.TheVariants.{Done, Refused, Usage, ReadFault, WriteFault, OutletFault, Memory}

abbrev pub exit_number : Status → ℕ
exit_number Done = 0
exit_number (Refused line reason) = 1
exit_number Usage = 2
exit_number ReadFault = 3
exit_number WriteFault = 4
exit_number OutletFault = 5
exit_number Memory = 6

abbrev pub text_of : Status → Option (List ℕ)
text_of Done = None
text_of (Refused line reason) = None
text_of Usage = Some (codes "usage: replay [--migrate | --toml | --seed N --events M]")
text_of ReadFault = Some (codes "read fault")
text_of WriteFault = Some (codes "write fault")
text_of OutletFault = Some (codes "outlet fault")
text_of Memory = Some (codes "no memory")

abbrev pub status_at : Ending → Status
status_at endings.Done = Done
status_at (endings.Refused line reason) = Refused line reason
status_at endings.ReadFault = ReadFault
status_at endings.WriteFault = WriteFault
status_at endings.OutletFault = OutletFault
status_at endings.Memory = Memory

-- the status of the run of a document, of which a refusal has the line 0
abbrev pub status_in_toml : Result Ending Cause → Status
status_in_toml (Ok ending) = status_at ending
status_in_toml (Err cause) = Refused 0 (reason_of cause)

-- the status of a migration
abbrev pub status_of : Migration → Status
status_of ends.Done = Done
status_of (ends.TooLong line) = Refused line TextTooLong
status_of ends.ReadFault = ReadFault
status_of ends.WriteFault = WriteFault
status_of ends.Memory = Memory

abbrev pub status_after : Outcome → Status
status_after outcomes.Done = Done
status_after (outcomes.Refused line reason) = Refused line reason
status_after outcomes.OutletFault = OutletFault
status_after outcomes.WriteFault = WriteFault
status_after outcomes.Memory = Memory
