-- The values of known types: codec configurations and capabilities (Basic Audio Profile 1.0, sections 4.3.1 and 4.3.2;
-- Published Audio Capabilities Service 1.0, section 3.1) and metadata. In one list the value of a type is that of its first structure of the
-- type, where its length is right. A configuration's value is the one of level 3 where present, else the one of level 2.
use Rattle.std.specs.Prelude.{ℕ, List, [], ◌∷◌, length, take, drop, Option, Some, None, ◌==◌, if◌then◌else◌}
use Rattle.std.specs.Option.{option_map, option_and_then, option_or}
use Rattle.bcast_base.specs.Numbers.{sum_from}
use Rattle.ltv_codec.specs.declared.ltvs.Ltv.{Ltv}
use Rattle.ltv_codec.specs.Reading.{ltvs_in}

abbrev pub first_of : ℕ → List Ltv → Option (List ℕ)
first_of kind [] = None
first_of kind (ltv ∷ ltvs) = if ltv.kind == kind then Some ltv.value else first_of kind ltvs

abbrev pub sized : ℕ → Option (List ℕ) → Option (List ℕ)
sized len value = option_and_then (λ octets. if length octets == len then Some octets else None) value

abbrev pub first_in : ℕ → List ℕ → Option (List ℕ)
first_in kind octets = first_of kind (ltvs_in octets)

abbrev pub value_in : ℕ → ℕ → List ℕ → Option (List ℕ)
value_in kind len octets = sized len (first_in kind octets)

abbrev pub number_in : ℕ → ℕ → List ℕ → Option ℕ
number_in kind len octets = option_map (sum_from 0) (value_in kind len octets)

abbrev pub or_else : Option ℕ → Option ℕ → Option ℕ
or_else value other = option_or value other

-- the value of level 3 where present, else that of level 2
abbrev pub configured : ℕ → ℕ → List ℕ → List ℕ → Option ℕ
configured kind len high low = or_else (number_in kind len high) (number_in kind len low)

-- of four octets the first two as a number, and the last two
abbrev pub least_of : List ℕ → ℕ
least_of value = sum_from 0 (take 2 value)

abbrev pub greatest_of : List ℕ → ℕ
greatest_of value = sum_from 0 (drop 2 value)

-- types of the codec configuration
abbrev pub sampling_frequency : ℕ
sampling_frequency = 1

abbrev pub frame_duration : ℕ
frame_duration = 2

abbrev pub audio_channel_allocation : ℕ
audio_channel_allocation = 3

abbrev pub octets_per_codec_frame : ℕ
octets_per_codec_frame = 4

abbrev pub codec_frame_blocks_per_sdu : ℕ
codec_frame_blocks_per_sdu = 5

-- types of the codec capabilities
abbrev pub supported_sampling_frequencies : ℕ
supported_sampling_frequencies = 1

abbrev pub supported_frame_durations : ℕ
supported_frame_durations = 2

abbrev pub supported_audio_channel_counts : ℕ
supported_audio_channel_counts = 3

abbrev pub supported_octets_per_codec_frame : ℕ
supported_octets_per_codec_frame = 4

abbrev pub supported_max_codec_frames_per_sdu : ℕ
supported_max_codec_frames_per_sdu = 5

-- a type of the metadata
abbrev pub streaming_audio_contexts : ℕ
streaming_audio_contexts = 2
