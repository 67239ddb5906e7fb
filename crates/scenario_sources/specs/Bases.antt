-- What the refusals of a BASE that is put together mean to a scenario, whose language is this project's own.
use Rattle.std.specs.Prelude.{Bool, true, false, Option, Some}
use Rattle.base_grammar.specs.declared.fault.DraftFault.{DraftFault}
use Rattle.base_grammar.specs.declared.fault.DraftFault.TheVariants as of_draft
use Rattle.transcript_text.specs.declared.refusal.Refusal.TheVariants.{BaseTooLong, NoSuchBis, Order}
use Rattle.transcript_text.specs.declared.stop.Stop.{Stop}
use Rattle.transcript_text.specs.declared.stop.Stop.TheVariants.{Refused, Memory}

-- there is no subgroup
abbrev pub is_missing : Option DraftFault → Bool
is_missing (Some of_draft.NoSubgroup) = true
is_missing _ = false

-- the last subgroup has no stream
abbrev pub is_bare : Option DraftFault → Bool
is_bare (Some of_draft.NoBis) = true
is_bare _ = false

-- there are too many octets
abbrev pub is_long : Option DraftFault → Bool
is_long (Some of_draft.TooLong) = true
is_long _ = false

abbrev pub stop_of : DraftFault → Stop
stop_of of_draft.NoSubgroup = Refused Order
stop_of of_draft.NoBis = Refused Order
stop_of of_draft.IndexTwice = Refused NoSuchBis
stop_of of_draft.TooLong = Refused BaseTooLong
stop_of of_draft.Memory = Memory
