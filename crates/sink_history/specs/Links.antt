-- What happens on one link of a sink (Broadcast Audio Scan Service 1.0, section 3.2; Core 5.2, volume 3 part F, section
-- 3.4.7): each value that a slot gets is to be told, and what the assistant does on the link is as it says. All that waits on
-- the link, and the views of its assistant, begin anew as it is joined.
use Rattle.std.specs.Prelude.{ℕ, ◌==◌, Bool, true, false, List, [], ◌∷◌, Option, Some, None, unwrap_or, if◌then◌else◌}
use Rattle.receive_state.specs.declared.state.ReceiveState.{ReceiveState}
use Rattle.assistant_machine.specs.Views.{reading_of}
use Rattle.receive_state.specs.Cuts.{cut}
use Rattle.assistant_machine.specs.Links as links
use Rattle.assistant_machine.specs.Links.{Act, Language, reads_of, view_of, waiting_of, waits_of}
use Rattle.delegator_history.specs.declared.notice.Notice.{Notice}
use Rattle.delegator_history.specs.LastGiven.{last_given}
use Rattle.delegator_history.specs.Notices.{changes}
use Rattle.delegator_history.specs.Snapshots.{Snapshot}
use Rattle.delegator_history.specs.States.{Step, snapshot_of}
use Rattle.delegator_history.specs.Trains.{Setup}
use Rattle.delegator_history.specs.Values.{state_at, value}
use Rattle.sink_history.specs.Calls.{Call, stepped, joined, served, notified, read, forged, steps_of}

abbrev pub language : Option ℕ → Language (Option ReceiveState)
language mtu = record { encode = value; reading = reading_of; empty = None; mtu = mtu }

abbrev pub Acts : Type 0
Acts = List (Act (Option ReceiveState))

abbrev pub Told : Type 0
Told = links.Notice (Option ReceiveState)

-- ---- what happens on a link

abbrev pub made_all : Snapshot → List Notice → Acts → Acts
made_all now [] acts = acts
made_all now (notice ∷ notices) acts = made_all now notices (links.made notice.slot (state_at now notice.slot) ∷ acts)

abbrev pub changed : Setup → List Step → List Step → Acts → Acts
changed setup before now acts = made_all (snapshot_of setup now) (changes setup.slots (snapshot_of setup before) (snapshot_of setup now)) acts

abbrev pub notified_first : List Told → Acts → Acts
notified_first [] acts = acts
notified_first (notice ∷ rest) acts = links.notified ∷ acts

abbrev pub read_first : List ℕ → Acts → Acts
read_first [] acts = acts
read_first (slot ∷ rest) acts = links.served slot ∷ acts

-- what a call adds, of which the steps of the delegator were those before and are these now
abbrev pub acts_by : Setup → Option ℕ → ℕ → Call → List Step → List Step → Acts → Acts
acts_by setup mtu link (stepped step) before now acts = changed setup before now acts
acts_by setup mtu link (served at) before now acts = changed setup before now acts
acts_by setup mtu link (joined at) before now acts = if at == link then links.joined ∷ acts else acts
acts_by setup mtu link (notified at) before now acts = if at == link then notified_first (waiting_of acts) acts else acts
acts_by setup mtu link (read at) before now acts = if at == link then read_first (reads_of (language mtu) setup.slots acts) acts else acts
acts_by setup mtu link (forged slot octets) before now acts = if link == 0 then links.forged slot octets ∷ acts else acts
acts_by setup mtu link _ before now acts = acts

abbrev pub acts_of : Setup → Option ℕ → ℕ → List Call → Acts
acts_of setup mtu link [] = []
acts_of setup mtu link (call ∷ earlier) = acts_by setup mtu link call (steps_of earlier) (steps_of (call ∷ earlier)) (acts_of setup mtu link earlier)

-- ---- what waits on it, and what its assistant knows

abbrev pub notices_waiting : Setup → Option ℕ → ℕ → List Call → List Told
notices_waiting setup mtu link calls = waiting_of (acts_of setup mtu link calls)

abbrev pub delivered : Option ℕ → Told → Notice
delivered mtu notice = record { slot = notice.slot; value = cut mtu (value notice.value) }

-- a read of the slot waits: a value for it may have been cut, or a link but 0 was joined, and no read of it was served since
abbrev pub read_waits : Setup → Option ℕ → ℕ → ℕ → List Call → Bool
read_waits setup mtu link slot calls = waits_of (language mtu) slot (acts_of setup mtu link calls)

abbrev pub reads_waiting : Setup → Option ℕ → ℕ → List Call → List ℕ
reads_waiting setup mtu link calls = reads_of (language mtu) setup.slots (acts_of setup mtu link calls)

abbrev pub view : Setup → Option ℕ → ℕ → ℕ → List Call → Option ReceiveState
view setup mtu link slot calls = view_of (language mtu) slot (acts_of setup mtu link calls)

abbrev pub state : Setup → ℕ → List Call → Option ReceiveState
state setup slot calls = state_at (snapshot_of setup (steps_of calls)) slot

-- ---- notices that the delegator did not send

abbrev pub forging_by : ℕ → Call → Option Bool
forging_by link (forged slot octets) = if link == 0 then Some true else None
forging_by link (joined at) = if at == link then Some false else None
forging_by link _ = None

-- a notice was forged over the link since it was joined
abbrev pub is_forged : ℕ → List Call → Bool
is_forged link calls = unwrap_or (last_given (forging_by link) calls) false
