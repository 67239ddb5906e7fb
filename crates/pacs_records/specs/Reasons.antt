-- The match as tests that compute, which is this project's own as the rule of the match is: the first requirement that is not
-- met, in the order of the list.
use Rattle.std.specs.Prelude.{ℕ, ◌-◌, ◌*◌, ◌==◌, ◌&&◌, ◌||◌, not, Bool, true, false, List, [], ◌∷◌, Option, Some, None, nat_le, bit_and, unwrap_or, option_and_then, if◌then◌else◌}
use Rattle.std.specs.List.{find}
use Rattle.std.specs.Int.{bit_at}
use Rattle.std.specs.Str.{bytes_eq}
use Rattle.base_grammar.specs.Effective.{effective_of}
use Rattle.base_grammar.specs.declared.effective.Effective.{Effective}
use Rattle.ltv_codec.specs.declared.caps.Caps.{Caps}
use Rattle.ltv_codec.specs.declared.config.Config.{Config}
use Rattle.pacs_records.specs.declared.capability.Capability.{Capability}
use Rattle.pacs_records.specs.declared.not_taken.NotTaken.{NotTaken}
use Rattle.pacs_records.specs.declared.not_taken.NotTaken.TheVariants.{Codec, Frequency, Duration, FrameOctets, Channels, FramesPerSdu, Location, Context}
use Rattle.pacs_records.specs.declared.record.PacRecord.{PacRecord}
use Rattle.base_grammar.specs.Layout.{is_lc3, Endpoint}
use Rattle.pacs_records.specs.Match.{caps_in, channel_count}

abbrev pub present : Option ℕ → (ℕ → Bool) → Bool
present None test = false
present (Some value) test = test value

abbrev pub has : ℕ → ℕ → Bool
has set k = bit_at set k == 1

abbrev pub frequency_met : Config → Caps → Bool
frequency_met config caps = present config.frequency (λ code. present caps.frequencies (λ set. nat_le 1 code && (nat_le code 16 && has set (code - 1))))

abbrev pub duration_met : Config → Caps → Bool
duration_met config caps = present config.duration (λ code. present caps.durations (λ set. nat_le code 1 && has set code))

abbrev pub frame_octets_met : Config → Caps → Bool
frame_octets_met config caps = present config.frame_octets (λ octets. present caps.least (λ least. present caps.greatest (λ greatest. nat_le least octets && nat_le octets greatest)))

abbrev pub channels_met : Config → Caps → Bool
channels_met config caps = nat_le (channel_count config.allocation) 8 && has (unwrap_or caps.counts 1) (channel_count config.allocation - 1)

abbrev pub frames_met : Config → Caps → Bool
frames_met config caps = nat_le (unwrap_or config.blocks 1 * channel_count config.allocation) (unwrap_or caps.frames (channel_count config.allocation))

abbrev pub location_met : Config → ℕ → Bool
location_met config locations = (unwrap_or config.allocation 0 == 0) || ((locations == 0) || not (bit_and (unwrap_or config.allocation 0) locations == 0))

abbrev pub context_met : Option ℕ → ℕ → Bool
context_met contexts available = not (bit_and (unwrap_or contexts 1) available == 0)

abbrev pub lc3_met : Caps → Capability → Effective → NotTaken → Bool
lc3_met caps capability effective Codec = true
lc3_met caps capability effective Frequency = frequency_met effective.config caps
lc3_met caps capability effective Duration = duration_met effective.config caps
lc3_met caps capability effective FrameOctets = frame_octets_met effective.config caps
lc3_met caps capability effective Channels = channels_met effective.config caps
lc3_met caps capability effective FramesPerSdu = frames_met effective.config caps
lc3_met caps capability effective Location = location_met effective.config capability.locations
lc3_met caps capability effective Context = context_met effective.contexts capability.contexts

abbrev pub lc3_reasons : List NotTaken
lc3_reasons = Frequency ∷ Duration ∷ FrameOctets ∷ Channels ∷ FramesPerSdu ∷ Location ∷ Context ∷ []

abbrev pub lc3_reason : Caps → Capability → Effective → Option NotTaken
lc3_reason caps capability effective = find (λ reason. not (lc3_met caps capability effective reason)) lc3_reasons

-- the first requirement of a record that is not met
abbrev pub reason_of : PacRecord → Capability → Effective → Option NotTaken
reason_of entry capability effective =
    if bytes_eq entry.codec effective.codec then (if is_lc3 effective.codec then lc3_reason (caps_in entry.caps) capability effective else None)
    else Some Codec

-- the reason of the last of these records where none fits, or the one told before
abbrev pub last_reason : NotTaken → List PacRecord → Capability → Effective → Option NotTaken
last_reason told [] capability effective = Some told
last_reason told (entry ∷ entries) capability effective = option_and_then (λ reason. last_reason reason entries capability effective) (reason_of entry capability effective)

abbrev pub not_taken : Capability → Effective → Option NotTaken
not_taken capability effective = last_reason Codec capability.entries capability effective

abbrev pub stream_not_taken : Capability → Endpoint → ℕ → Option NotTaken
stream_not_taken capability base bis = option_and_then (not_taken capability) (effective_of base bis)
