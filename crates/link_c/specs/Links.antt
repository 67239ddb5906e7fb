-- What C's calls say of the assistant behind a handle.
use Rattle.std.specs.Prelude.{ℕ, ◌≡◌, ◌≢◌, ◌≤◌, List, [], ◌∷◌, length, Option, Some, None, Result, Ok, Err}
use Rattle.assistant_machine.specs.Answers.{answer_of}
use Rattle.assistant_machine.specs.Calls.{Call, notified, read}
use Rattle.assistant_machine.specs.declared.fault.NoticeFault.{NoticeFault}
use Rattle.assistant_machine.specs.declared.fault.NoticeFault.TheVariants as faults
use Rattle.assistant_machine.specs.declared.fault.NoticeTaken.{NoticeTaken}
use Rattle.bcast_base.specs.Encoding.{IsOctets}
use Rattle.c_values.specs.Faults.{state_fault_c}
use Rattle.c_values.specs.Statuses as statuses
use Rattle.c_values.specs.declared.fault.AirFault.{AirFault}
use Rattle.assistant_machine.specs.State.Assistants.{StandsFor}
use Rattle.link_c.specs.declared.handle.VmLink.{VmLink}
use Rattle.link_c.specs.declared.machine.LinkMachine.{LinkMachine}

abbrev pub LinkStandsIn : ℕ → List Call → Option LinkMachine → Type 0
LinkStandsIn slots calls None = ⊥
LinkStandsIn slots calls (Some machine) = StandsFor slots calls machine.assistant

-- the handle keeps an assistant on a server of so many slots that took these calls, the newest first
abbrev pub LinkStands : ℕ → List Call → VmLink → Type 0
LinkStands slots calls handle = LinkStandsIn slots calls handle.kept

abbrev pub writes_kept : Option LinkMachine → List (List ℕ)
writes_kept None = []
writes_kept (Some machine) = machine.assistant.writes

-- the writes that wait, oldest first
abbrev pub writes_in : VmLink → List (List ℕ)
writes_in handle = writes_kept handle.kept

-- the status and the fault by which C is told an answer
abbrev pub TellsAnswer : Result NoticeTaken NoticeFault → (status : ℕ) → AirFault → Type 0
TellsAnswer (Ok taken) status told = (status ≢ statuses.no_slot) × (status ≢ statuses.bad_notice)
TellsAnswer (Err faults.NoSuchSlot) status told = status ≡ statuses.no_slot
TellsAnswer (Err (faults.BadNotice fault)) status told = (status ≡ statuses.bad_notice) × (told ≡ state_fault_c fault)
TellsAnswer (Err faults.Memory) status told = ⊥

-- those for a value of a slot, of so many slots, where a notice is cut to this MTU
abbrev pub AnswersNotice : ℕ → Option ℕ → ℕ → List ℕ → ℕ → AirFault → Type 0
AnswersNotice slots mtu slot value status told = TellsAnswer (answer_of slots mtu slot value) status told

-- so many octets at most
abbrev pub IsWithin : ℕ → List ℕ → Type 0
IsWithin most value = IsOctets value × (length value ≤ most)

-- each value that was told of a slot or read of it has so many octets at most
abbrev pub AreWithin : ℕ → ℕ → List Call → Type 0
AreWithin most slot [] = Unit {0}
AreWithin most slot (notified at value ∷ earlier) = (at ≡ slot → IsWithin most value) × AreWithin most slot earlier
AreWithin most slot (read at value ∷ earlier) = (at ≡ slot → IsWithin most value) × AreWithin most slot earlier
AreWithin most slot (call ∷ earlier) = AreWithin most slot earlier
