-- Which stream a sink takes, by its capabilities (Published Audio Capabilities Service 1.0, sections 3.1, 3.2 and 3.5)
-- and by what the BASE says of the stream (Basic Audio Profile 1.0, sections 3.7.2.2 and 4.3). The rule, and the order of
-- its requirements, is this project's own: some record meets all of them.
use Rattle.std.specs.Prelude.{ℕ, ◌-◌, ◌*◌, ◌<◌, ◌≤◌, ◌≡◌, ◌⊎◌, ◌==◌, List, [], ◌∷◌, ◌++◌, Option, IsSomeAnd, unwrap_or, Any, if◌then◌else◌}
use Rattle.std.specs.Option.{option_map}
use Rattle.std.specs.Int.{bit_at}
use Rattle.std.specs.Int.RustNames.{count_ones}
use Rattle.base_grammar.specs.Effective.{effective_of}
use Rattle.base_grammar.specs.declared.effective.Effective.{Effective}
use Rattle.ltv_codec.specs.declared.caps.Caps.{Caps}
use Rattle.ltv_codec.specs.declared.config.Config.{Config}
use Rattle.ltv_codec.specs.Values.{number_in, value_in, least_of, greatest_of, supported_sampling_frequencies, supported_frame_durations, supported_audio_channel_counts}
use Rattle.ltv_codec.specs.Values.{supported_octets_per_codec_frame, supported_max_codec_frames_per_sdu}
use Rattle.pacs_records.specs.declared.capability.Capability.{Capability}
use Rattle.pacs_records.specs.declared.not_taken.NotTaken.{NotTaken}
use Rattle.pacs_records.specs.declared.not_taken.NotTaken.TheVariants.{Codec, Frequency, Duration, FrameOctets, Channels, FramesPerSdu, Location, Context}
use Rattle.pacs_records.specs.declared.record.PacRecord.{PacRecord}
use Rattle.base_grammar.specs.Layout.{lc3, Endpoint}

-- bit k of the set is set
abbrev pub Has : ℕ → ℕ → Type 0
Has set k = bit_at set k ≡ 1

abbrev pub ShareBit : ℕ → ℕ → Type 0
ShareBit a b = (k : ℕ) × Has a k × Has b k

abbrev pub caps_in : List ℕ → Caps
caps_in octets = record {
  frequencies = number_in supported_sampling_frequencies 2 octets;
  durations = number_in supported_frame_durations 1 octets;
  counts = number_in supported_audio_channel_counts 1 octets;
  least = option_map least_of (value_in supported_octets_per_codec_frame 4 octets);
  greatest = option_map greatest_of (value_in supported_octets_per_codec_frame 4 octets);
  frames = number_in supported_max_codec_frames_per_sdu 1 octets;
}

-- the number of bits of the allocation, or 1 where it is absent or 0
abbrev pub channel_count : Option ℕ → ℕ
channel_count allocation = if unwrap_or allocation 0 == 0 then 1 else count_ones (unwrap_or allocation 0)

-- ---- the requirements of LC3

-- the code is present, from 1 to 16, and bit code - 1 is set
abbrev pub HasFrequency : Config → Caps → Type 0
HasFrequency config caps = IsSomeAnd config.frequency (λ code. IsSomeAnd caps.frequencies (λ set. (1 ≤ code) × (code ≤ 16) × Has set (code - 1)))

-- the code is present, 0 or 1, and its bit is set
abbrev pub HasDuration : Config → Caps → Type 0
HasDuration config caps = IsSomeAnd config.duration (λ code. IsSomeAnd caps.durations (λ set. (code ≤ 1) × Has set code))

-- all three are present, and the octets are within the two
abbrev pub HasFrameOctets : Config → Caps → Type 0
HasFrameOctets config caps = IsSomeAnd config.frame_octets (λ octets. IsSomeAnd caps.least (λ least. IsSomeAnd caps.greatest (λ greatest. (least ≤ octets) × (octets ≤ greatest))))

-- at most 8 channels, and bit channels - 1 is set; absent counts mean one channel
abbrev pub HasChannels : Config → Caps → Type 0
HasChannels config caps = (channel_count config.allocation ≤ 8) × Has (unwrap_or caps.counts 1) (channel_count config.allocation - 1)

-- blocks × channels is at most the supported frames, or the channels where that is absent; absent blocks mean one
abbrev pub HasFrames : Config → Caps → Type 0
HasFrames config caps = unwrap_or config.blocks 1 * channel_count config.allocation ≤ unwrap_or caps.frames (channel_count config.allocation)

-- where neither is 0 they share a location
abbrev pub IsPlaced : Config → ℕ → Type 0
IsPlaced config locations = 0 < unwrap_or config.allocation 0 → 0 < locations → ShareBit (unwrap_or config.allocation 0) locations

-- a context is available; absent contexts mean Unspecified
abbrev pub HasContext : Option ℕ → ℕ → Type 0
HasContext contexts available = ShareBit (unwrap_or contexts 1) available

-- ---- the match

-- the requirement whose failure has this name
abbrev pub Meets : NotTaken → PacRecord → Capability → Effective → Type 0
Meets Codec entry capability effective = entry.codec ≡ effective.codec
Meets Frequency entry capability effective = effective.codec ≡ lc3 → HasFrequency effective.config (caps_in entry.caps)
Meets Duration entry capability effective = effective.codec ≡ lc3 → HasDuration effective.config (caps_in entry.caps)
Meets FrameOctets entry capability effective = effective.codec ≡ lc3 → HasFrameOctets effective.config (caps_in entry.caps)
Meets Channels entry capability effective = effective.codec ≡ lc3 → HasChannels effective.config (caps_in entry.caps)
Meets FramesPerSdu entry capability effective = effective.codec ≡ lc3 → HasFrames effective.config (caps_in entry.caps)
Meets Location entry capability effective = effective.codec ≡ lc3 → IsPlaced effective.config capability.locations
Meets Context entry capability effective = effective.codec ≡ lc3 → HasContext effective.contexts capability.contexts

-- the place of a requirement in the order
abbrev pub number : NotTaken → ℕ
number Codec = 1
number Frequency = 2
number Duration = 3
number FrameOctets = 4
number Channels = 5
number FramesPerSdu = 6
number Location = 7
number Context = 8

-- the record meets all requirements
abbrev pub FitsStream : PacRecord → Capability → Effective → Type 0
FitsStream entry capability effective = (reason : NotTaken) → Meets reason entry capability effective

-- some record does
abbrev pub Takes : Capability → Effective → Type 0
Takes capability effective = Any (λ entry. FitsStream entry capability effective) capability.entries

-- the requirement is not met, and all before it are
pub record IsReason (reason : NotTaken) (entry : PacRecord) (capability : Capability) (effective : Effective) : Type 0 where
  pub fails : ¬ Meets reason entry capability effective
  pub first : (earlier : NotTaken) → number earlier < number reason → Meets earlier entry capability effective

-- the reason of the last record, or Codec where there is none
abbrev pub IsToldReason : NotTaken → Capability → Effective → Type 0
IsToldReason reason capability effective =
    ((capability.entries ≡ []) × (reason ≡ Codec))
    ⊎ ((prefix : List PacRecord) × (last : PacRecord) × (capability.entries ≡ prefix ++ last ∷ []) × IsReason reason last capability effective)

-- ---- a stream of a BASE

-- some record fits what the BASE says of the stream of this index
abbrev pub TakesStream : Capability → Endpoint → ℕ → Type 0
TakesStream capability base bis = IsSomeAnd (effective_of base bis) (Takes capability)

-- none does, and this is the reason
abbrev pub RefusesStream : NotTaken → Capability → Endpoint → ℕ → Type 0
RefusesStream reason capability base bis = IsSomeAnd (effective_of base bis) (λ effective. (¬ Takes capability effective) × IsToldReason reason capability effective)
