-- What holds for one stream of a BASE (Basic Audio Profile 1.0, section 3.7.2.2): the Codec_ID and the metadata of its
-- subgroup, and of the codec configuration each value as its own entry (level 3) has it, and else as the subgroup (level 2).
use Rattle.std.specs.Prelude.{ℕ, ◌+◌, ◌≡◌, ◌==◌, Bool, true, false, List, [], ◌∷◌, Option, Some, None, slice_get}
use Rattle.std.specs.List.{find}
use Rattle.ltv_codec.specs.declared.config.Config.{Config}
use Rattle.ltv_codec.specs.Values.{configured, number_in, sampling_frequency, frame_duration, audio_channel_allocation, octets_per_codec_frame, codec_frame_blocks_per_sdu, streaming_audio_contexts}
use Rattle.base_grammar.specs.declared.effective.Effective.{Effective}
use Rattle.base_grammar.specs.declared.subgroup.BaseEntry.{BaseEntry}
use Rattle.base_grammar.specs.declared.subgroup.Subgroup.{Subgroup}
use Rattle.base_grammar.specs.Layout.{Endpoint, is_lc3}

abbrev pub config_of : Bool → List ℕ → List ℕ → Config
config_of true high low = record {
  frequency = configured sampling_frequency 1 high low;
  duration = configured frame_duration 1 high low;
  allocation = configured audio_channel_allocation 4 high low;
  frame_octets = configured octets_per_codec_frame 2 high low;
  blocks = configured codec_frame_blocks_per_sdu 1 high low;
}
config_of false high low = record { frequency = None; duration = None; allocation = None; frame_octets = None; blocks = None }

abbrev pub values_of : ℕ → Subgroup → BaseEntry → Effective
values_of place s e = record {
  codec = s.codec;
  config = config_of (is_lc3 s.codec) e.config s.config;
  contexts = number_in streaming_audio_contexts 2 s.metadata;
  subgroup = place;
}

-- these values hold for the index: it has an entry, at some place, in the subgroup, whose place is the one that they tell
pub record IsEffective (v : Endpoint) (bis : ℕ) (effective : Effective) : Type 0 where
  pub subgroup : Subgroup
  pub entry : BaseEntry
  pub place : ℕ
  pub stands : slice_get v.subgroups effective.subgroup ≡ Some subgroup
  pub has : slice_get subgroup.entries place ≡ Some entry
  pub index : entry.bis ≡ bis
  pub values : effective ≡ values_of effective.subgroup subgroup entry

abbrev pub entry_of : ℕ → List BaseEntry → Option BaseEntry
entry_of bis entries = find (λ e. e.bis == bis) entries

abbrev pub or_behind : ℕ → Subgroup → Option BaseEntry → Option Effective → Option Effective
or_behind place s (Some e) behind = Some (values_of place s e)
or_behind place s None behind = behind

-- the values for the index among subgroups, of which the first stands at this place
abbrev pub effective_from : ℕ → ℕ → List Subgroup → Option Effective
effective_from place bis [] = None
effective_from place bis (s ∷ subgroups) = or_behind place s (entry_of bis s.entries) (effective_from (place + 1) bis subgroups)

abbrev pub effective_of : Endpoint → ℕ → Option Effective
effective_of v bis = effective_from 0 bis v.subgroups
