-- How a receiver answers a PDU: the first of these that holds. The octets are no PDU; it is not of the framing; its
-- payload number (Core 5.2, volume 6 part B, section 4.4.6) is below the open event's, or past the window; a PDU of that
-- number is kept; else the PDU is kept.
use Rattle.std.specs.Prelude.{ℕ, ◌+◌, ◌-◌, ◌*◌, nat_lt, is_some, List, slice_set, slice_index_or, Option, Some, None, Result, Ok, Err, if◌then◌else◌}
use Rattle.big_info.specs.declared.info.BigInfo.{BigInfo}
use Rattle.iso_pdu.specs.declared.fault.PduFault.{PduFault}
use Rattle.iso_pdu.specs.Layout.{Content}
use Rattle.iso_pdu.specs.Reading.{read_of}
use Rattle.isoal_base.specs.declared.heard.Heard.{Heard}
use Rattle.isoal_base.specs.declared.heard.Heard.TheVariants.{Malformed, WrongKind, Late, Beyond, Repeat, Kept}
use Rattle.isoal_base.specs.Stays.{window_of}

abbrev pub taken_of : {A : Type 0} → (Content → Option A) → Result Content PduFault → Option A
taken_of takes (Ok content) = takes content
taken_of takes (Err fault) = None

abbrev pub read_as : {A : Type 0} → (Content → Option A) → ℕ → List ℕ → Option A
read_as takes max_pdu octets = taken_of takes (read_of max_pdu octets)

-- the answer to a PDU of the framing, where this event is open and these entries are kept from its first number on
abbrev pub placing : {A : Type 0} → BigInfo → ℕ → List (Option A) → ℕ → Heard
placing info event kept number = if nat_lt number (event * info.bn) then Late
    else if nat_lt number (event * info.bn + window_of info) then
    (if is_some (slice_index_or kept (number - event * info.bn) None) then Repeat else Kept) else Beyond

abbrev pub of_framing : {A : Type 0} → Option A → Heard → Heard
of_framing None answer = WrongKind
of_framing (Some part) answer = answer

abbrev pub unless_malformed : {A : Type 0} → (Content → Option A) → Result Content PduFault → Heard → Heard
unless_malformed takes (Err fault) answer = Malformed fault
unless_malformed takes (Ok content) answer = of_framing (takes content) answer

abbrev pub answer_of : {A : Type 0} → (Content → Option A) → BigInfo → ℕ → List (Option A) → ℕ → List ℕ → Heard
answer_of takes info event kept number octets = unless_malformed takes (read_of info.max_pdu octets) (placing info event kept number)

-- the entries after this answer
abbrev pub kept_by : {A : Type 0} → Heard → List (Option A) → ℕ → Option A → List (Option A)
kept_by (Malformed fault) kept index entry = kept
kept_by WrongKind kept index entry = kept
kept_by Late kept index entry = kept
kept_by Beyond kept index entry = kept
kept_by Repeat kept index entry = kept
kept_by Kept kept index entry = slice_set kept index entry

abbrev pub kept_after : {A : Type 0} → (Content → Option A) → BigInfo → ℕ → List (Option A) → ℕ → List ℕ → List (Option A)
kept_after takes info event kept number octets =
    kept_by (answer_of takes info event kept number octets) kept (number - event * info.bn) (read_as takes info.max_pdu octets)
