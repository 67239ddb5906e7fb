-- What C is told of a BASE.
use Rattle.std.specs.Prelude.{ℕ, ◌≡◌, List, Option, Some, None, is_some, unwrap_or}
use Rattle.base_grammar.specs.Layout.{Endpoint}
use Rattle.base_grammar.specs.declared.effective.Effective.{Effective}
use Rattle.pacs_records.specs.Match.{RefusesStream, number}
use Rattle.pacs_records.specs.declared.capability.Capability.{Capability}
use Rattle.pacs_records.specs.declared.not_taken.NotTaken.{NotTaken}
use Rattle.pacs_records.specs.declared.record.PacRecord.{PacRecord}
use Rattle.layouts_c.specs.declared.base.AirEffective.{AirEffective}

-- a value that isn't there is 0
abbrev pub effective_c : Effective → AirEffective
effective_c it = record {
  subgroup = it.subgroup;
  allocation = unwrap_or it.config.allocation 0;
  contexts = unwrap_or it.contexts 0;
  frame_octets = unwrap_or it.config.frame_octets 0;
  frequency = unwrap_or it.config.frequency 0;
  duration = unwrap_or it.config.duration 0;
  blocks = unwrap_or it.config.blocks 0;
  has_allocation = is_some it.config.allocation;
  has_contexts = is_some it.contexts;
  has_frame_octets = is_some it.config.frame_octets;
  has_frequency = is_some it.config.frequency;
  has_duration = is_some it.config.duration;
  has_blocks = is_some it.config.blocks;
  codec = it.codec;
}

-- something holds, and this is told of it
abbrev pub IsToldOf : Option Effective → AirEffective → Type 0
IsToldOf None told = ⊥
IsToldOf (Some it) told = told ≡ effective_c it

-- a device with these records, audio locations and available contexts
abbrev pub capability : List PacRecord → ℕ → ℕ → Capability
capability records locations contexts = record { entries = records; locations = locations; contexts = contexts }

-- no record fits the stream, and this number is that of the first requirement that the last one doesn't meet
abbrev pub RefusedAs : Capability → Endpoint → ℕ → ℕ → Type 0
RefusedAs device base bis told = (reason : NotTaken) × RefusesStream reason device base bis × (told ≡ number reason)
