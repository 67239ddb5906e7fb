-- What the receiver of a stream keeps, by the framing of its group, and what its calls make of it.
use Rattle.std.specs.Prelude.{ℕ, ◌==◌, List, replicate, None, if◌then◌else◌}
use Rattle.unit_outlets.specs.Handed.{Handed}
use Rattle.isoal_base.specs.declared.heard.Heard.{Heard}
use Rattle.isoal_base.specs.Hearing.{answer_of}
use Rattle.isoal_base.specs.Stays as stays
use Rattle.isoal_base.specs.Stays.{Stay, opened, window_of}
use Rattle.isoal_unframed.specs.Units.{unframed}
use Rattle.isoal_unframed.specs.State.Windows as plain
use Rattle.isoal_framed.specs.Histories.{undecided_in}
use Rattle.isoal_framed.specs.State.Windows as segments
use Rattle.isoal_framed.specs.Tokens.{segmented}
use Rattle.group_sink.specs.Hearings.{entries_of, segments_of}
use Rattle.group_sink.specs.declared.receiver.Receiver.{Receiver}
use Rattle.group_sink.specs.declared.receiver.Receiver.TheVariants.{Unframed, Framed}

-- on which nothing was heard yet
abbrev pub fresh : Stay → Receiver
fresh stay =
    if stay.info.framing == 0
    then Unframed (record { stay = stay; event = stay.first; kept = replicate (window_of stay.info) None })
    else Framed (record { stay = stay; event = stay.first; kept = replicate (window_of stay.info) None; run = None })

-- after these calls
abbrev pub unframed_after : Stay → List stays.Call → plain.Window
unframed_after stay calls = record { stay = stay; event = opened stay calls; kept = entries_of stay calls }

abbrev pub framed_after : Stay → List stays.Call → segments.Window
framed_after stay calls =
    record { stay = stay; event = opened stay calls; kept = segments_of stay calls; run = undecided_in stay calls }

abbrev pub receiver_after : Stay → List stays.Call → Receiver
receiver_after stay calls = if stay.info.framing == 0 then Unframed (unframed_after stay calls) else Framed (framed_after stay calls)

-- its open event
abbrev pub open_of : Receiver → ℕ
open_of (Unframed window) = window.event
open_of (Framed window) = window.event

-- what it answers a PDU, and what it keeps then
abbrev pub answer_by : ℕ → List ℕ → Receiver → Heard
answer_by number octets (Unframed window) = answer_of unframed window.stay.info window.event window.kept number octets
answer_by number octets (Framed window) = answer_of segmented window.stay.info window.event window.kept number octets

abbrev pub hear_by : ℕ → List ℕ → Receiver → Receiver
hear_by number octets (Unframed window) = Unframed (plain.after_hear number octets window)
hear_by number octets (Framed window) = Framed (segments.after_hear number octets window)

-- what its close hands, and what it keeps then
abbrev pub owed_of : Receiver → List Handed
owed_of (Unframed window) = plain.owed window
owed_of (Framed window) = segments.owed window

abbrev pub closed : Receiver → Receiver
closed (Unframed window) = Unframed (plain.after_close window)
closed (Framed window) = Framed (segments.after_close window)
