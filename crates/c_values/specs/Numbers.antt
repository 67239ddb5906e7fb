-- The numbers by which C is told an answer.
use Rattle.std.specs.Prelude.{ℕ}
use Rattle.iso_pdu.specs.Faults.{number_of as pdu_number}
use Rattle.big_info.specs.Faults.{number_of as group_number}
use Rattle.isoal_base.specs.declared.heard.Heard.{Heard}
use Rattle.isoal_base.specs.declared.heard.Heard.TheVariants as heards
use Rattle.isoal_base.specs.declared.hearing.Hearing.{Hearing}
use Rattle.isoal_base.specs.declared.hearing.Hearing.TheVariants as hearings
use Rattle.delegator_history.specs.declared.replies.Cause.{Cause}
use Rattle.delegator_history.specs.declared.replies.Cause.TheVariants as causes
use Rattle.delegator_history.specs.declared.replies.Reply.{Reply}
use Rattle.delegator_history.specs.declared.replies.Reply.TheVariants as replies
use Rattle.delegator_history.specs.declared.train_heard.TrainHeard.{TrainHeard}
use Rattle.delegator_history.specs.declared.train_heard.TrainHeard.TheVariants as trains
use Rattle.delegator_history.specs.declared.train_heard.ControlHeard.{ControlHeard}
use Rattle.delegator_history.specs.declared.train_heard.ControlHeard.TheVariants as controls
use Rattle.c_values.specs.declared.answers.VmReply.{VmReply}
use Rattle.c_values.specs.declared.answers.VmHeard.{VmHeard}

abbrev pub cause_number : Cause → ℕ
cause_number causes.Empty = 1
cause_number causes.Opcode = 2
cause_number causes.Length = 3
cause_number causes.Rfu = 4
cause_number causes.BisTwice = 5
cause_number causes.SourceUnknown = 6
cause_number causes.NoDecrypt = 7
cause_number causes.Known = 8
cause_number causes.NoRoom = 9
cause_number causes.ValueTooLong = 10
cause_number causes.StillSynced = 11

abbrev pub reply_c : Reply → VmReply
reply_c replies.Accepted = record { code = 0; cause = 0 }
reply_c (replies.Refused code cause) = record { code = code; cause = cause_number cause }

abbrev pub kept_c : Heard → VmHeard
kept_c (heards.Malformed fault) = record { answer = 0; fault = pdu_number fault }
kept_c heards.WrongKind = record { answer = 1; fault = 0 }
kept_c heards.Late = record { answer = 2; fault = 0 }
kept_c heards.Beyond = record { answer = 3; fault = 0 }
kept_c heards.Repeat = record { answer = 4; fault = 0 }
kept_c heards.Kept = record { answer = 5; fault = 0 }

abbrev pub heard_c : Hearing → VmHeard
heard_c hearings.NotOnGroup = record { answer = 6; fault = 0 }
heard_c hearings.NotTaken = record { answer = 7; fault = 0 }
heard_c hearings.NoNumber = record { answer = 8; fault = 0 }
heard_c (hearings.Heard heard) = kept_c heard

abbrev pub control_c : ControlHeard → VmHeard
control_c controls.NotOnGroup = record { answer = 0; fault = 0 }
control_c (controls.Malformed fault) = record { answer = 1; fault = pdu_number fault }
control_c controls.NotControl = record { answer = 2; fault = 0 }
control_c controls.UnknownOpcode = record { answer = 3; fault = 0 }
control_c controls.ControlLength = record { answer = 4; fault = 0 }
control_c controls.MapIgnored = record { answer = 5; fault = 0 }
control_c controls.Left = record { answer = 6; fault = 0 }

-- the streams apart
abbrev pub train_c : TrainHeard → ℕ × ℕ
train_c trains.NoBroadcastId = (0, 0)
train_c trains.NotWanted = (1, 0)
train_c trains.OtherTrain = (2, 0)
train_c trains.AlreadyOnGroup = (3, 0)
train_c trains.NoBase = (4, 0)
train_c trains.BadBase = (5, 0)
train_c trains.NoBigInfo = (6, 0)
train_c trains.BadBigInfo = (7, 0)
train_c (trains.BadGroup fault) = (8, group_number fault)
train_c trains.NoneTaken = (9, 0)
train_c (trains.OnGroup streams) = (10, 0)

-- the streams that the sink is put on: bit n for the index n + 1
abbrev pub streams_c : TrainHeard → ℕ
streams_c (trains.OnGroup streams) = streams
streams_c heard = 0
