-- What can be wrong with a whole field of a BASE (Basic Audio Profile 1.0, section 3.7.2.2), at the place where it begins.
use Rattle.std.specs.Prelude.{ℕ, ◌==◌, Bool, List, Option, Some, None, nat_lt, if◌then◌else◌}
use Rattle.std.specs.Option.{option_map}
use Rattle.ltv_codec.specs.Reading.{bad_of}
use Rattle.base_grammar.specs.declared.fault.BaseFault.{BaseFault}
use Rattle.base_grammar.specs.declared.fault.BaseFault.TheVariants.{NoSubgroup, NoBis, BadIndex, IndexTwice, Ltv}
use Rattle.base_grammar.specs.Layout.{stands_in}

abbrev pub subgroups_fault : ℕ → Option BaseFault
subgroups_fault count = if count == 0 then Some NoSubgroup else None

abbrev pub streams_fault : ℕ → ℕ → Option BaseFault
streams_fault place count = if count == 0 then Some (NoBis place) else None

abbrev pub index_fault : ℕ → List ℕ → ℕ → Option BaseFault
index_fault place before bis = if nat_lt bis 1 then Some (BadIndex place)
    else if nat_lt 31 bis then Some (BadIndex place)
    else if stands_in before bis then Some (IndexTwice place) else None

-- metadata, and a configuration of LC3, is an LTV list
abbrev pub run_fault : ℕ → Bool → List ℕ → Option BaseFault
run_fault place is_list octets = if is_list then option_map (λ bad. Ltv place bad) (bad_of octets) else None
