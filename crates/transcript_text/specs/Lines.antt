-- The lines of a transcript, which is this project's own: a line is words with one space between each two, and the octet
-- 0x0A. Numbers are decimal, and octets are pairs of lower-case hexadecimal digits, or `-` for none. Times are in µs.
use Rattle.std.specs.Prelude.{ℕ, List, [], ◌∷◌, ◌++◌, length, Option, None, Some, decimal, codes}
use Rattle.iso_pdu.specs.Faults.{number_of}
use Rattle.big_info.specs.Faults.{number_of as place_of}
use Rattle.isoal_base.specs.declared.heard.Heard.TheVariants.{Malformed, WrongKind, Late, Beyond, Repeat, Kept}
use Rattle.isoal_base.specs.declared.hearing.Hearing.{Hearing}
use Rattle.isoal_base.specs.declared.hearing.Hearing.TheVariants.{NotOnGroup, NotTaken, NoNumber, Heard}
use Rattle.scenario_words.specs.Digits.{digits}
use Rattle.scenario_words.specs.Joined.{joined}
use Rattle.unit_outlets.specs.Handed.{Handed, valid, lost}
use Rattle.transcript_text.specs.declared.refusal.Refusal.{Refusal}
use Rattle.transcript_text.specs.declared.refusal.Refusal.TheVariants.{TextTooLong, LineTooLong, BadLine, AfterEnd, Order, BadGroup, BaseTooLong}
use Rattle.transcript_text.specs.declared.refusal.Refusal.TheVariants.{IdentTwice, NoSuchSink, NoSuchLink, LinkTwice, SinkTwice, NoOutlet, NoSuchBis, UnitTooLong}
use Rattle.transcript_text.specs.declared.refusal.Refusal.TheVariants.{TimeOrder, RelayTaken, Relayed, Backlog, NoSuchSubevent, NotOnAir}
use Rattle.transcript_text.specs.declared.refusal.Refusal.TheVariants.{CounterEnds, NothingWaiting, RecordsTooLong, NoEnd, BadToml, BadDocument}

abbrev pub newline : ℕ
newline = 10

abbrev pub line_of : List ℕ → List (List ℕ) → List ℕ
line_of first words = joined first words ++ newline ∷ []

-- ---- units, PDUs and sums

abbrev pub valid_line : (sink bis time : ℕ) → List ℕ → List ℕ
valid_line sink bis time octets = line_of (codes "unit")
    (decimal sink ∷ decimal bis ∷ codes "at" ∷ decimal time ∷ codes "valid" ∷ decimal (length octets) ∷ digits octets ∷ [])

abbrev pub lost_line : (sink bis time : ℕ) → List ℕ
lost_line sink bis time = line_of (codes "unit") (decimal sink ∷ decimal bis ∷ codes "at" ∷ decimal time ∷ codes "lost" ∷ [])

abbrev pub handed_line : ℕ → Handed → List ℕ
handed_line sink (valid bis time octets) = valid_line sink bis time octets
handed_line sink (lost bis time) = lost_line sink bis time

abbrev pub pdu_line : (event bis subevent : ℕ) → List ℕ → List ℕ
pdu_line event bis subevent octets = line_of (codes "pdu") (decimal event ∷ decimal bis ∷ decimal subevent ∷ digits octets ∷ [])

abbrev pub stale_line : (bis time : ℕ) → List ℕ
stale_line bis time = line_of (codes "stale") (decimal bis ∷ decimal time ∷ [])

abbrev pub control_line : List ℕ → List ℕ
control_line octets = line_of (codes "control") (digits octets ∷ [])

abbrev pub sum_line : (sink units octets : ℕ) → List ℕ
sum_line sink units octets = line_of (codes "sum") (decimal sink ∷ decimal units ∷ decimal octets ∷ [])

-- ---- lines with a name, and behind some names a number

abbrev pub numbers : Option ℕ → List (List ℕ)
numbers None = []
numbers (Some n) = decimal n ∷ []

abbrev pub named_line : List ℕ → List ℕ → List ℕ → Option ℕ → List ℕ
named_line first label name number = line_of first (label ∷ name ∷ numbers number)

abbrev pub hearing_name : Hearing → List ℕ
hearing_name NotOnGroup = codes "NotOnGroup"
hearing_name NotTaken = codes "NotTaken"
hearing_name NoNumber = codes "NoNumber"
hearing_name (Heard (Malformed fault)) = codes "Malformed"
hearing_name (Heard WrongKind) = codes "WrongKind"
hearing_name (Heard Late) = codes "Late"
hearing_name (Heard Beyond) = codes "Beyond"
hearing_name (Heard Repeat) = codes "Repeat"
hearing_name (Heard Kept) = codes "Kept"

abbrev pub hearing_number : Hearing → Option ℕ
hearing_number (Heard (Malformed fault)) = Some (number_of fault)
hearing_number _ = None

abbrev pub heard_line : ℕ → Hearing → List ℕ
heard_line sink hearing = named_line (codes "heard") (decimal sink) (hearing_name hearing) (hearing_number hearing)

abbrev pub refusal_name : Refusal → List ℕ
refusal_name TextTooLong = codes "TextTooLong"
refusal_name LineTooLong = codes "LineTooLong"
refusal_name (BadLine word) = codes "BadLine"
refusal_name AfterEnd = codes "AfterEnd"
refusal_name Order = codes "Order"
refusal_name (BadGroup fault) = codes "BadGroup"
refusal_name BaseTooLong = codes "BaseTooLong"
refusal_name IdentTwice = codes "IdentTwice"
refusal_name NoSuchSink = codes "NoSuchSink"
refusal_name NoSuchLink = codes "NoSuchLink"
refusal_name LinkTwice = codes "LinkTwice"
refusal_name SinkTwice = codes "SinkTwice"
refusal_name NoOutlet = codes "NoOutlet"
refusal_name NoSuchBis = codes "NoSuchBis"
refusal_name UnitTooLong = codes "UnitTooLong"
refusal_name TimeOrder = codes "TimeOrder"
refusal_name RelayTaken = codes "RelayTaken"
refusal_name Relayed = codes "Relayed"
refusal_name Backlog = codes "Backlog"
refusal_name NoSuchSubevent = codes "NoSuchSubevent"
refusal_name NotOnAir = codes "NotOnAir"
refusal_name CounterEnds = codes "CounterEnds"
refusal_name NothingWaiting = codes "NothingWaiting"
refusal_name RecordsTooLong = codes "RecordsTooLong"
refusal_name NoEnd = codes "NoEnd"
refusal_name BadToml = codes "BadToml"
refusal_name BadDocument = codes "BadDocument"

-- the number of the word from 0, or of the fault from 1
abbrev pub refusal_number : Refusal → Option ℕ
refusal_number (BadLine word) = Some word
refusal_number (BadGroup fault) = Some (place_of fault)
refusal_number _ = None

abbrev pub refusal_line : ℕ → Refusal → List ℕ
refusal_line line reason = named_line (codes "line") (decimal line ++ codes ":") (refusal_name reason) (refusal_number reason)

-- ---- units that a relay offers

-- a source that doesn't stream refuses a `unit` line as Order, and drops a unit that a relay offers as NotStreaming
abbrev pub dropped_name : Refusal → List ℕ
dropped_name Order = codes "NotStreaming"
dropped_name reason = refusal_name reason

abbrev pub dropped_line : (sink bis : ℕ) → Refusal → List ℕ
dropped_line sink bis reason = line_of (codes "relay") (decimal sink ∷ decimal bis ∷ codes "dropped" ∷ dropped_name reason ∷ [])
