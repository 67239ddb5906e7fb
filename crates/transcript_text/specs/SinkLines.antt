-- The lines that tell of a sink and of its assistants. They are this project's own: words with one space between each two.
-- Numbers are decimal, and octets are pairs of lower-case hexadecimal digits, or `-` for none.
use Rattle.std.specs.Prelude.{ℕ, ◌-◌, ◌==◌, List, [], ◌∷◌, ◌++◌, map, Result, Ok, Err, decimal, codes}
use Rattle.std.specs.Int.{bit_at}
use Rattle.std.specs.List.{filter, range_with_len}
use Rattle.big_info.specs.Faults.{number_of as place_of}
use Rattle.iso_pdu.specs.Faults.{number_of}
use Rattle.receive_state.specs.declared.fault.StateFault.{StateFault}
use Rattle.receive_state.specs.declared.fault.StateFault.TheVariants as state_faults
use Rattle.assistant_machine.specs.declared.fault.NoticeFault.{NoticeFault}
use Rattle.assistant_machine.specs.declared.fault.NoticeFault.TheVariants as notice_faults
use Rattle.assistant_machine.specs.declared.fault.NoticeTaken.{NoticeTaken}
use Rattle.announcement_train.specs.declared.train.Train.{Train as Announced}
use Rattle.delegator_history.specs.declared.notice.Notice.{Notice}
use Rattle.delegator_history.specs.declared.replies.Cause.{Cause}
use Rattle.delegator_history.specs.declared.replies.Cause.TheVariants as causes
use Rattle.delegator_history.specs.declared.replies.Reply.{Reply}
use Rattle.delegator_history.specs.declared.replies.Reply.TheVariants.{Accepted, Refused}
use Rattle.delegator_history.specs.declared.train_heard.ControlHeard.{ControlHeard}
use Rattle.delegator_history.specs.declared.train_heard.ControlHeard.TheVariants as controls
use Rattle.delegator_history.specs.declared.train_heard.TrainHeard.{TrainHeard}
use Rattle.delegator_history.specs.declared.train_heard.TrainHeard.TheVariants as trains
use Rattle.scenario_words.specs.Digits.{digits}
use Rattle.transcript_text.specs.Lines.{line_of}

-- how the lines of a link begin: with these first words, and with these numbers behind them
pub record Label : Type 0 where
  pub reply : List ℕ
  pub notice : List ℕ
  pub read : List ℕ
  pub numbers : List (List ℕ)

-- the lines of link 0
abbrev pub plain : ℕ → Label
plain sink = record { reply = codes "reply"; notice = codes "notice"; read = codes "read"; numbers = decimal sink ∷ [] }

-- the lines of a link that a line of version 2 names
abbrev pub on_link : ℕ → ℕ → Label
on_link sink link = record { reply = codes "areply"; notice = codes "anotice"; read = codes "aread"; numbers = decimal sink ∷ decimal link ∷ [] }

-- ---- replies

abbrev pub cause_name : Cause → List ℕ
cause_name causes.Empty = codes "Empty"
cause_name causes.Opcode = codes "Opcode"
cause_name causes.Length = codes "Length"
cause_name causes.Rfu = codes "Rfu"
cause_name causes.BisTwice = codes "BisTwice"
cause_name causes.SourceUnknown = codes "SourceUnknown"
cause_name causes.NoDecrypt = codes "NoDecrypt"
cause_name causes.Known = codes "Known"
cause_name causes.NoRoom = codes "NoRoom"
cause_name causes.ValueTooLong = codes "ValueTooLong"
cause_name causes.StillSynced = codes "StillSynced"

-- a refusal has its error code in two digits, and its cause
abbrev pub reply_words : Reply → List (List ℕ)
reply_words Accepted = codes "ok" ∷ []
reply_words (Refused code cause) = digits (code ∷ []) ∷ cause_name cause ∷ []

abbrev pub reply_line : Label → Reply → List ℕ
reply_line label reply = line_of label.reply (label.numbers ++ reply_words reply)

-- ---- values of slots

abbrev pub value_line : List ℕ → List (List ℕ) → Notice → List ℕ
value_line first numbers notice = line_of first (numbers ++ decimal notice.slot ∷ digits notice.value ∷ [])

abbrev pub bad_number : StateFault → ℕ
bad_number (state_faults.Short place) = 1
bad_number (state_faults.Rfu place) = 2
bad_number (state_faults.Trailing place) = 3
bad_number state_faults.Memory = 0

abbrev pub forged_words : Result NoticeTaken NoticeFault → List (List ℕ)
forged_words (Ok taken) = codes "ok" ∷ []
forged_words (Err notice_faults.NoSuchSlot) = codes "NoSuchSlot" ∷ []
forged_words (Err (notice_faults.BadNotice fault)) = codes "BadNotice" ∷ decimal (bad_number fault) ∷ []
forged_words (Err notice_faults.Memory) = []

abbrev pub forged_line : ℕ → Result NoticeTaken NoticeFault → List ℕ
forged_line sink answer = line_of (codes "forged") (decimal sink ∷ forged_words answer)

-- ---- trains and control PDUs

-- the indices of a set among so many from a first one on, rising: bit n stands for the index n + 1
abbrev pub indices_from : (set index more : ℕ) → List ℕ
indices_from set index more = filter (λ bis. bit_at set (bis - 1) == 1) (range_with_len index more)

abbrev pub indices_of : ℕ → List ℕ
indices_of set = indices_from set 1 31

abbrev pub train_words : TrainHeard → List (List ℕ)
train_words trains.NoBroadcastId = codes "NoBroadcastId" ∷ []
train_words trains.NotWanted = codes "NotWanted" ∷ []
train_words trains.OtherTrain = codes "OtherTrain" ∷ []
train_words trains.AlreadyOnGroup = codes "AlreadyOnGroup" ∷ []
train_words trains.NoBase = codes "NoBase" ∷ []
train_words trains.BadBase = codes "BadBase" ∷ []
train_words trains.NoBigInfo = codes "NoBigInfo" ∷ []
train_words trains.BadBigInfo = codes "BadBigInfo" ∷ []
train_words (trains.BadGroup fault) = codes "BadGroup" ∷ decimal (place_of fault) ∷ []
train_words trains.NoneTaken = codes "NoneTaken" ∷ []
train_words (trains.OnGroup which) = codes "OnGroup" ∷ map decimal (indices_of which)

abbrev pub control_words : ControlHeard → List (List ℕ)
control_words controls.NotOnGroup = codes "NotOnGroup" ∷ []
control_words (controls.Malformed fault) = codes "Malformed" ∷ decimal (number_of fault) ∷ []
control_words controls.NotControl = codes "NotControl" ∷ []
control_words controls.UnknownOpcode = codes "UnknownOpcode" ∷ []
control_words controls.ControlLength = codes "ControlLength" ∷ []
control_words controls.MapIgnored = codes "MapIgnored" ∷ []
control_words controls.Left = codes "Left" ∷ []

abbrev pub sink_line : ℕ → List (List ℕ) → List ℕ
sink_line sink words = line_of (codes "sink") (decimal sink ∷ words)

abbrev pub train_line : ℕ → Announced → List ℕ
train_line sink train =
    line_of (codes "train") (decimal sink ∷ decimal train.time ∷ digits train.ext ∷ digits train.adv ∷ digits train.acad ∷ [])
