-- A source of a scenario: what its lines say of it, the calls that it took, and the PDUs on its air (Core 5.2, volume 6
-- part B, section 4.4.6, and part G, section 2; the numbers of a group are those of the BIGInfo, section 4.4.6.11 of part
-- B). The steps here are those of one source, the newest first.
use Rattle.std.specs.Prelude.{ℕ, ◌-◌, ◌%◌, ◌^◌, ◌==◌, ◌&&◌, ◌||◌, not, is_some, Bool, true, false, List, [], ◌∷◌, Option, None, Some, unwrap_or, replicate, if◌then◌else◌}
use Rattle.big_info.specs.declared.info.BigInfo.{BigInfo}
use Rattle.big_info.specs.declared.info.Cipher.{Cipher}
use Rattle.iso_pdu.specs.Control.{terminate}
use Rattle.iso_pdu.specs.Layout.{control}
use Rattle.iso_pdu.specs.Encoding.{pdu}
use Rattle.source_machine.specs.Calls.{Setup, Call, give, event as perform, events, next_of}
use Rattle.source_machine.specs.Airs.{Airs, pdu_of, stale_of}
use Rattle.source_machine.specs.Ciphers.{with_cipher}
use Rattle.source_machine.specs.declared.sent.Stale.{Stale}
use Rattle.source_machine.specs.declared.setup.Identity.{Identity}
use Rattle.scenario_text.specs.declared.step.Step.{Step}
use Rattle.scenario_text.specs.declared.step.Step.TheVariants.{Group, Ident, Cipher as CipherLine, Start, Unit, Event, Stop, Terminate}
use Rattle.scenario_history.specs.Steps.{last_given, is_over, version_of}

-- ---- what its lines say

-- what a `group` line says: the group, the anchor of the first event in µs, and Presentation_Delay in µs
pub record GroupLine : Type 0 where
  pub info : BigInfo
  pub origin : ℕ
  pub delay : ℕ

-- the BIGInfo of a group whose other fields aren't spoken of
abbrev pub info_with : (framing iso sdu max_sdu max_pdu num_bis bn nse irc pto sub spacing phy : ℕ) → BigInfo
info_with framing iso sdu max_sdu max_pdu num_bis bn nse irc pto sub spacing phy = record {
  big_offset = 0;
  big_offset_units = 0;
  iso_interval = iso;
  num_bis = num_bis;
  nse = nse;
  bn = bn;
  sub_interval = sub;
  pto = pto;
  bis_spacing = spacing;
  irc = irc;
  max_pdu = max_pdu;
  seed_access_address = 0;
  sdu_interval = sdu;
  max_sdu = max_sdu;
  base_crc_init = 0;
  chm = 0;
  phy = phy;
  bis_payload_count = 0;
  framing = framing;
  cipher = None;
}

abbrev pub group_given : Step → Option GroupLine
group_given (Group framing origin delay iso sdu max_sdu max_pdu num_bis bn nse irc pto sub spacing phy) = Some (record {
  info = info_with framing iso sdu max_sdu max_pdu num_bis bn nse irc pto sub spacing phy;
  origin = origin;
  delay = delay;
})
group_given _ = None

abbrev pub group_of : List Step → Option GroupLine
group_of steps = last_given group_given steps

-- before `group` nothing asks for these numbers
abbrev pub no_group : GroupLine
no_group = record { info = info_with 0 0 0 0 0 0 0 0 0 0 0 0 0; origin = 0; delay = 0 }

abbrev pub start_given : Step → Option ℕ
start_given (Start first) = Some first
start_given _ = None

abbrev pub start_of : List Step → Option ℕ
start_of steps = last_given start_given steps

abbrev pub identity_given : Step → Option Identity
identity_given (Ident address_type address sid broadcast_id) =
    Some (record { address_type = address_type; address = address; sid = sid; broadcast_id = broadcast_id })
identity_given _ = None

abbrev pub ident_of : List Step → Option Identity
ident_of steps = last_given identity_given steps

-- without `ident` a source is of type 0, and its address, its SID and its Broadcast_ID are 0
abbrev pub no_identity : Identity
no_identity = record { address_type = 0; address = replicate 6 0; sid = 0; broadcast_id = replicate 3 0 }

abbrev pub identity_of : List Step → Identity
identity_of steps = unwrap_or (ident_of steps) no_identity

abbrev pub cipher_given : Step → Option Cipher
cipher_given (CipherLine giv gskd) = Some (record { giv = giv; gskd = gskd })
cipher_given _ = None

abbrev pub cipher_of : List Step → Option Cipher
cipher_of steps = last_given cipher_given steps

-- the BIGInfo that the group check sees: that of the group, with the cipher where one was said
abbrev pub checked_info : List Step → BigInfo
checked_info steps = with_cipher (unwrap_or (group_of steps) no_group).info (cipher_of steps)

-- the group is encrypted: the source announces it, and sends nothing
abbrev pub is_ciphered : List Step → Bool
is_ciphered steps = is_some (cipher_of steps)

-- ---- its phase

-- where a source stands: without a group, described by one, between its start and its end, or stopped by `stop` or by `terminate`
pub data Phase : Type 0 where
  absent : Phase
  described : Phase
  sending : Phase
  stopped : Phase

abbrev pub phase_given : Step → Option Phase
phase_given (Group framing origin delay iso sdu max_sdu max_pdu num_bis bn nse irc pto sub spacing phy) = Some described
phase_given (Start first) = Some sending
phase_given Stop = Some stopped
phase_given (Terminate reason) = Some stopped
phase_given _ = None

abbrev pub phase_of : List Step → Phase
phase_of steps = unwrap_or (last_given phase_given steps) absent

abbrev pub is_absent_at : Phase → Bool
is_absent_at absent = true
is_absent_at _ = false

abbrev pub is_described_at : Phase → Bool
is_described_at described = true
is_described_at _ = false

abbrev pub is_sending_at : Phase → Bool
is_sending_at sending = true
is_sending_at _ = false

abbrev pub was_started_at : Phase → Bool
was_started_at sending = true
was_started_at stopped = true
was_started_at _ = false

abbrev pub is_sending : List Step → Bool
is_sending steps = is_sending_at (phase_of steps)

abbrev pub is_started : List Step → Bool
is_started steps = was_started_at (phase_of steps)

abbrev pub takes_units : List Step → Bool
takes_units steps = is_sending steps && not (is_ciphered steps)

abbrev pub is_heard : List Step → Bool
is_heard steps = is_started steps && not (is_ciphered steps)

-- ---- its calls and its air

abbrev pub setup_from : GroupLine → ℕ → Bool → Setup
setup_from group first ahead = record { info = group.info; origin = group.origin; delay = group.delay; first = first; ahead = ahead }

-- in version 2 the time of a framed unit may be past the next anchor
abbrev pub is_ahead_in : ℕ → Bool
is_ahead_in version = version == 2

abbrev pub setup_of : List Step → Setup
setup_of steps = setup_from (unwrap_or (group_of steps) no_group) (unwrap_or (start_of steps) 0) (is_ahead_in (version_of steps))

abbrev pub with_source_call : Step → List Call → List Call
with_source_call (Unit bis time octets) calls = give bis time octets ∷ calls
with_source_call Event calls = perform ∷ calls
with_source_call _ calls = calls

abbrev pub source_calls : List Step → List Call
source_calls [] = []
source_calls (step ∷ earlier) = with_source_call step (source_calls earlier)

abbrev pub performed : List Step → ℕ
performed steps = events (source_calls steps)

-- the event `back` events before the last one performed
abbrev pub event_back : List Step → ℕ → ℕ
event_back steps back = next_of (setup_of steps) (source_calls steps) - 1 - back

abbrev pub pdu_in : Airs → List Step → ℕ → ℕ → ℕ → List ℕ
pdu_in airs steps event bis subevent =
    unwrap_or (pdu_of (setup_of steps) (airs (setup_of steps) (source_calls steps)) event bis subevent) []

-- the PDU that ends the group at the next event: Instant is the low 16 bits of that (Core 5.2, volume 6 part B, section 2.6.3)
abbrev pub end_pdu : List Step → ℕ → List ℕ
end_pdu steps reason = pdu (control (terminate reason (next_of (setup_of steps) (source_calls steps) % 2 ^ 16)))

abbrev pub stale_in : Airs → List Step → List Stale
stale_in airs steps = stale_of (setup_of steps) (source_calls steps) (airs (setup_of steps) (perform ∷ source_calls steps))

-- the open event: the last one performed, until the next one, `stop`, `terminate` or `end` closes it
abbrev pub open_event : List Step → Option ℕ
open_event steps = if not (is_sending steps) || is_over steps || (performed steps == 0) then None else Some (event_back steps 0)
