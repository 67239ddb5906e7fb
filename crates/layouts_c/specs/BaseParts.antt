-- A BASE that C gives by its parts, which name their octets among those that stand beside them (Basic Audio Profile 1.0, section 3.7.2.2).
use Rattle.std.specs.Prelude.{ℕ, ◌+◌, ◌^◌, ◌≡◌, ◌==◌, ◌&&◌, Bool, List, [], ◌∷◌, length, map, take, drop, nat_le, nat_lt, Result, Ok, Err}
use Rattle.std.specs.List.{filter, list_all}
use Rattle.base_grammar.specs.Layout.{Endpoint, endpoint}
use Rattle.base_grammar.specs.declared.fault.BaseFault.{BaseFault}
use Rattle.base_grammar.specs.declared.subgroup.BaseEntry.{BaseEntry}
use Rattle.base_grammar.specs.declared.subgroup.Subgroup.{Subgroup}
use Rattle.c_values.specs.Faults.{base_fault_c}
use Rattle.c_values.specs.declared.fault.AirFault.{AirFault}
use Rattle.layouts_c.specs.declared.parts.AirBaseStream.{AirBaseStream}
use Rattle.layouts_c.specs.declared.parts.AirBaseSubgroup.{AirBaseSubgroup}

-- so many octets from a place on
abbrev pub run_in : List ℕ → (place count : ℕ) → List ℕ
run_in octets place count = take count (drop place octets)

abbrev pub entry_in : List ℕ → AirBaseStream → BaseEntry
entry_in octets s = record { bis = s.bis; config = run_in octets s.config_place s.config_count }

-- the streams of the subgroup at this place
abbrev pub streams_at : ℕ → List AirBaseStream → List AirBaseStream
streams_at place streams = filter (λ s. s.subgroup == place) streams

abbrev pub subgroup_in : List ℕ → List AirBaseStream → ℕ → AirBaseSubgroup → Subgroup
subgroup_in octets streams place s = record {
  codec = s.codec;
  config = run_in octets s.config_place s.config_count;
  metadata = run_in octets s.metadata_place s.metadata_count;
  entries = map (entry_in octets) (streams_at place streams);
}

-- subgroups, of which the first stands at this place
abbrev pub subgroups_in : List ℕ → List AirBaseStream → ℕ → List AirBaseSubgroup → List Subgroup
subgroups_in octets streams place [] = []
subgroups_in octets streams place (s ∷ others) = subgroup_in octets streams place s ∷ subgroups_in octets streams (place + 1) others

abbrev pub base_in : (delay : ℕ) → List AirBaseSubgroup → List AirBaseStream → (octets : List ℕ) → Endpoint
base_in delay subgroups streams octets = endpoint delay (subgroups_in octets streams 0 subgroups)

-- ---- ranges

abbrev pub is_within : (octets place count : ℕ) → Bool
is_within octets place count = nat_le (place + count) octets

abbrev pub subgroup_fits : ℕ → AirBaseSubgroup → Bool
subgroup_fits octets s = is_within octets s.config_place s.config_count && is_within octets s.metadata_place s.metadata_count

abbrev pub stream_fits : (octets subgroups : ℕ) → AirBaseStream → Bool
stream_fits octets subgroups s =
    nat_le 1 s.bis && (nat_le s.bis 31 && (nat_lt s.subgroup subgroups && is_within octets s.config_place s.config_count))

-- the delay has 24 bits, each index is one of a stream, each stream has its subgroup, and all runs stand among the octets
abbrev pub parts_fit : (delay : ℕ) → List AirBaseSubgroup → List AirBaseStream → (octets : List ℕ) → Bool
parts_fit delay subgroups streams octets = nat_lt delay (2 ^ 24)
    && (list_all (subgroup_fits (length octets)) subgroups && list_all (stream_fits (length octets) (length subgroups)) streams)

-- ---- faults

-- octets are no BASE, and this is their fault
abbrev pub ToldAs : Result Endpoint BaseFault → AirFault → Type 0
ToldAs (Ok base) told = ⊥
ToldAs (Err fault) told = told ≡ base_fault_c fault
