-- What the numbers of a step keep to, whatever its line: the ranges of the scenario language, which for a group are
-- the widths of the BIGInfo (Core 5.2, volume 6 part B, section 4.4.6.11). What is spelled by pairs of digits for a source or
-- as an operation is octets, and so are the fields of an operation (Broadcast Audio Scan Service 1.0, section 3.1.1).
use Rattle.std.specs.Prelude.{ℕ, ◌≡◌, ◌≤◌, ◌<◌, ◌^◌, ⊤, length, None}
use Rattle.std.specs.Option.{ForSome}
use Rattle.ltv_codec.specs.Reading.{bad_of}
use Rattle.bcast_base.specs.Encoding.{IsOctets}
use Rattle.bass_operations.specs.Layout.{MetadataFits, encoding}
use Rattle.bass_operations.specs.declared.operation.Operation.TheVariants as operations
use Rattle.scenario_text.specs.declared.step.Step.{Step}
use Rattle.scenario_text.specs.declared.step.Step.TheVariants.{Scenario, Group, Ident, Subgroup, Meta, Bis, Cipher, Start, Sink, Pac, Locate, Context, Tuned}
use Rattle.scenario_text.specs.declared.step.Step.TheVariants.{Unit, Event, Hear, Air, Inject, Sniff, Announce, Train, Write, Add, Modify, Remove, Code, Serve}
use Rattle.scenario_text.specs.declared.step.Step.TheVariants.{Tell, Read, Drain, Show, Lose, Drop, Terminate, Control, Forge, Stop, End, Assist, Apart, AWrite}
use Rattle.scenario_text.specs.declared.step.Step.TheVariants.{AServe, ATell, ARead, ADrain, AShow, Source, Relay}

pub record GroupRanges (framing origin delay iso sdu max_sdu max_pdu num_bis bn nse irc pto sub spacing phy : ℕ) : Type 0 where
  pub framing_is : framing ≤ 1
  pub origin_least : 3000 ≤ origin
  pub origin_greatest : origin ≤ 2 ^ 48
  pub delay_is : delay < 2 ^ 24
  pub iso_is : iso < 2 ^ 12
  pub sdu_is : sdu < 2 ^ 20
  pub max_sdu_is : max_sdu < 2 ^ 12
  pub max_pdu_is : max_pdu < 2 ^ 8
  pub num_bis_is : num_bis < 2 ^ 5
  pub bn_is : bn < 2 ^ 3
  pub nse_is : nse < 2 ^ 5
  pub irc_is : irc < 2 ^ 4
  pub pto_is : pto < 2 ^ 4
  pub sub_is : sub < 2 ^ 20
  pub spacing_is : spacing < 2 ^ 20
  pub phy_is : phy < 2 ^ 3

-- the numbers of the step keep to their ranges
abbrev pub IsInRange : Step → Type 0
IsInRange (Scenario version) = (1 ≤ version) × (version ≤ 2)
IsInRange (Group framing origin delay iso sdu max_sdu max_pdu num_bis bn nse irc pto sub spacing phy) =
    GroupRanges framing origin delay iso sdu max_sdu max_pdu num_bis bn nse irc pto sub spacing phy
IsInRange (Ident address_type address sid broadcast_id) =
    (address_type ≤ 1) × (length address ≡ 6) × (sid ≤ 15) × (length broadcast_id ≡ 3) × IsOctets address × IsOctets broadcast_id
IsInRange (Subgroup codec config) = (length codec ≡ 5) × (length config ≤ 255) × (bad_of config ≡ None) × IsOctets codec × IsOctets config
IsInRange (Meta metadata) = (length metadata ≤ 255) × (bad_of metadata ≡ None) × IsOctets metadata
IsInRange (Bis bis config) = (length config ≤ 255) × (bad_of config ≡ None) × IsOctets config × (1 ≤ bis) × (bis ≤ 31)
IsInRange (Cipher giv gskd) = (length giv ≡ 8) × (length gskd ≡ 16) × IsOctets giv × IsOctets gskd
IsInRange (Start first) = first < 2 ^ 39
IsInRange (Sink sink streams slots mtu) =
    (sink ≤ 7) × (1 ≤ streams) × (streams ≤ 31) × (1 ≤ slots) × (slots ≤ 8) × ForSome mtu (λ octets. (23 ≤ octets) × (octets ≤ 517))
IsInRange (Pac sink codec caps metadata) =
    (sink ≤ 7) × (length codec ≡ 5) × (length caps ≤ 255) × (length metadata ≤ 255) × (bad_of caps ≡ None) × (bad_of metadata ≡ None)
IsInRange (Locate sink bits) = sink ≤ 7
IsInRange (Context sink sink_bits source_bits) = sink ≤ 7
IsInRange (Tuned sink which) = sink ≤ 7
IsInRange (Unit bis time octets) = length octets ≤ 4095
IsInRange Event = ⊤
IsInRange (Hear sink back bis subevent) = (sink ≤ 7) × (back ≤ 31) × (subevent ≤ 30)
IsInRange (Air sink lose) = sink ≤ 7
IsInRange (Inject sink back bis subevent octets) = (sink ≤ 7) × (back ≤ 31) × (subevent ≤ 30) × (length octets ≤ 300)
IsInRange (Sniff back bis subevent) = (back ≤ 31) × (subevent ≤ 30)
IsInRange (Announce sink) = sink ≤ 7
IsInRange (Train sink time ext adv acad) =
    (sink ≤ 7) × (time ≤ 2 ^ 48) × (length ext ≤ 255) × (length adv ≤ 1650) × (length acad ≤ 255) × IsOctets ext × IsOctets adv × IsOctets acad
IsInRange (Write sink octets) = (sink ≤ 7) × (length octets ≤ 512) × IsOctets octets
IsInRange (Add sink op) = (sink ≤ 7) × MetadataFits op.wishes × IsOctets (encoding (operations.Add op))
IsInRange (Modify sink op) = (sink ≤ 7) × MetadataFits op.wishes × IsOctets (encoding (operations.Modify op))
IsInRange (Remove sink source_id) = (sink ≤ 7) × (source_id < 256)
IsInRange (Code sink source_id code) = (sink ≤ 7) × (length code ≡ 16) × (source_id < 256) × IsOctets code
IsInRange (Serve sink) = sink ≤ 7
IsInRange (Tell sink) = sink ≤ 7
IsInRange (Read sink) = sink ≤ 7
IsInRange (Drain sink) = sink ≤ 7
IsInRange (Show sink) = sink ≤ 7
IsInRange (Lose sink) = sink ≤ 7
IsInRange (Drop sink) = sink ≤ 7
IsInRange (Terminate reason) = ⊤
IsInRange (Control sink octets) = (sink ≤ 7) × (length octets ≤ 300)
IsInRange (Forge sink slot octets) = (sink ≤ 7) × (length octets ≤ 1024)
IsInRange Stop = ⊤
IsInRange End = ⊤
IsInRange (Assist sink link) = (sink ≤ 7) × (link ≤ 3)
IsInRange (Apart sink link) = (sink ≤ 7) × (1 ≤ link) × (link ≤ 3)
IsInRange (AWrite sink link octets) = (sink ≤ 7) × (link ≤ 3) × (length octets ≤ 512) × IsOctets octets
IsInRange (AServe sink link) = (sink ≤ 7) × (link ≤ 3)
IsInRange (ATell sink link) = (sink ≤ 7) × (link ≤ 3)
IsInRange (ARead sink link) = (sink ≤ 7) × (link ≤ 3)
IsInRange (ADrain sink link) = (sink ≤ 7) × (link ≤ 3)
IsInRange (AShow sink link) = (sink ≤ 7) × (link ≤ 3)
IsInRange (Source source) = source ≤ 1
IsInRange (Relay sink bis to) = sink ≤ 7
