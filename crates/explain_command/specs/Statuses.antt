-- What the program makes of a status: its exit status, and what it says on standard error. Both are this project's own.
use Rattle.std.specs.Prelude.{ℕ, List, Option, None, Some, Result, Ok, Err, codes}
use Rattle.replay_lines.specs.declared.cause.Cause.{Cause}
use Rattle.replay_lines.specs.declared.ending.Ending.{Ending}
use Rattle.replay_lines.specs.declared.ending.Ending.TheVariants.{Done, Refused, ReadFault, WriteFault, OutletFault, Memory}
use Rattle.explain_command.specs.declared.status.Status.{Status}
use Rattle.explain_command.specs.declared.status.Status.TheVariants.{Usage, Ended, NotRun}

abbrev pub ending_number : Ending → ℕ
ending_number Done = 0
ending_number (Refused line reason) = 1
ending_number ReadFault = 3
ending_number WriteFault = 4
ending_number OutletFault = 5
ending_number Memory = 6

abbrev pub exit_number : Status → ℕ
exit_number Usage = 2
exit_number (Ended ending) = ending_number ending
exit_number (NotRun cause) = 1

-- the status of a document that ended so
abbrev pub status_in_toml : Result Ending Cause → Status
status_in_toml (Ok ending) = Ended ending
status_in_toml (Err cause) = NotRun cause

abbrev pub ending_text : Ending → Option (List ℕ)
ending_text Done = None
ending_text (Refused line reason) = None
ending_text ReadFault = Some (codes "read fault")
ending_text WriteFault = Some (codes "write fault")
ending_text OutletFault = Some (codes "outlet fault")
ending_text Memory = Some (codes "no memory")

abbrev pub text_of : Status → Option (List ℕ)
text_of Usage = Some (codes "usage: explain [--toml]")
text_of (Ended ending) = ending_text ending
text_of (NotRun cause) = None
