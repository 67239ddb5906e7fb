-- The sender of a stream of either framing, and how it stands for its calls (Core 5.2, volume 6 part G, section 2). Of two
-- lists of calls the one of its framing counts.
use Rattle.std.specs.Prelude.{ℕ, ◌≡◌, ◌≤◌, ◌<◌, List, length, Option, None, Some}
use Rattle.big_info.specs.declared.info.BigInfo.{BigInfo}
use Rattle.isoal_base.specs.declared.laid.PutFault.{PutFault}
use Rattle.isoal_base.specs.declared.laid.PutFault.TheVariants.{TooLong, TimeOrder, Backlog, Memory}
use Rattle.isoal_unframed.specs.Calls.{Call as PlainCall}
use Rattle.isoal_unframed.specs.State.Sender.{StandsFor as PlainStands}
use Rattle.isoal_framed.specs.Calls.{Call as TimedCall}
use Rattle.isoal_framed.specs.Filling.{framed_air}
use Rattle.isoal_framed.specs.State.Senders.{InOrder, StandsFor as TimedStands, waiting}
use Rattle.source_machine.specs.declared.sender.Sender.{Sender}
use Rattle.source_machine.specs.declared.sender.Sender.TheVariants.{Framed, Unframed}

-- the group
abbrev pub info_of : Sender → BigInfo
info_of (Unframed out) = out.info
info_of (Framed out) = out.info

-- how many units wait
abbrev pub waiting_in : Sender → ℕ
waiting_in (Unframed out) = length out.waiting
waiting_in (Framed out) = waiting out

-- a unit has the time that the framing wants, where there is a limit that it may not pass or none
abbrev pub HasTime : Sender → (time limit : Option ℕ) → Type 0
HasTime (Unframed out) time limit = time ≡ None
HasTime (Framed out) None limit = ⊥
HasTime (Framed out) (Some time) limit = InOrder out limit time

-- when a unit is refused
abbrev pub PutStops : Sender → (time limit : Option ℕ) → List ℕ → PutFault → Type 0
PutStops sender time limit octets TooLong = (info_of sender).max_sdu < length octets
PutStops sender time limit octets TimeOrder = ¬ HasTime sender time limit
PutStops sender time limit octets Backlog = HasTime sender time limit × (16 ≤ waiting_in sender)
PutStops sender time limit octets Memory = HasTime sender time limit × (waiting_in sender < 16)

-- the sender is as these calls leave it
abbrev pub SenderStands : BigInfo → List PlainCall → List TimedCall → Sender → Type 0
SenderStands info plain timed (Unframed out) = (info.framing ≡ 0) × PlainStands info plain out
SenderStands info plain timed (Framed out) = (info.framing ≡ 1) × TimedStands info timed (framed_air info timed) out
