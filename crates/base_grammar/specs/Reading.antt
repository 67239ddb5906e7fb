-- Reading a BASE (Basic Audio Profile 1.0, section 3.7.2.2) from left to right, field by field, with the first fault that
-- is met. `whole` is all that is read, and `rest` its last octets, which are still to be read.
use Rattle.std.specs.Prelude.{ℕ, zero, suc, Bool, true, List, [], ◌∷◌, ◌++◌, length, map, Option, Some, None, is_none, Result, Ok, Err, nat_lt, if◌then◌else◌}
use Rattle.bcast_base.specs.Reading.{octet_in, octets_in, number_in, place_in}
use Rattle.bcast_base.specs.Tries.{◌>>=◌, needed}
use Rattle.base_grammar.specs.declared.fault.BaseFault.{BaseFault}
use Rattle.base_grammar.specs.declared.fault.BaseFault.TheVariants.{Short, Trailing, TooLong, Memory}
use Rattle.base_grammar.specs.declared.subgroup.BaseEntry.{BaseEntry}
use Rattle.base_grammar.specs.declared.subgroup.Subgroup.{Subgroup}
use Rattle.base_grammar.specs.Layout.{Endpoint, endpoint, is_lc3, bis_of}
use Rattle.base_grammar.specs.Rows.{subgroups_fault, streams_fault, index_fault, run_fault}

-- ---- a field

abbrev pub field_at : {A : Type 0} → List ℕ → List ℕ → Option A → Result A BaseFault
field_at whole rest field = needed (Short (place_in whole rest)) field

abbrev pub unless : {A : Type 0} → Option BaseFault → A → Result A BaseFault
unless None x = Ok x
unless (Some fault) x = Err fault

-- octets behind one that counts them
unfoldable pub run_at : List ℕ → Bool → List ℕ → Result (List ℕ × List ℕ) BaseFault
run_at whole is_list rest = do
  count ← field_at whole rest (octet_in rest)
  run ← field_at whole count.1 (octets_in count.0 count.1)
  unless (run_fault (place_in whole count.1) is_list run.0) run

unfoldable pub index_at : List ℕ → List ℕ → List ℕ → Result (ℕ × List ℕ) BaseFault
index_at whole before rest = do bis ← field_at whole rest (octet_in rest); unless (index_fault (place_in whole rest) before bis.0) bis

-- ---- the values

unfoldable pub entry_at : List ℕ → Bool → List ℕ → List ℕ → Result (BaseEntry × List ℕ) BaseFault
entry_at whole is_list before rest = do
  bis ← index_at whole before rest
  config ← run_at whole is_list bis.1
  Ok (record { bis = bis.0; config = config.0 }, config.1)

unfoldable pub entries_at : List ℕ → Bool → List ℕ → ℕ → List ℕ → Result (List BaseEntry × List ℕ) BaseFault
entries_at whole is_list before zero rest = Ok ([], rest)
entries_at whole is_list before (suc n) rest = do
  first ← entry_at whole is_list before rest
  others ← entries_at whole is_list (before ++ first.0.bis ∷ []) n first.1
  Ok (first.0 ∷ others.0, others.1)

-- the number of entries
unfoldable pub streams_at : List ℕ → List ℕ → Result (ℕ × List ℕ) BaseFault
streams_at whole rest = do count ← field_at whole rest (octet_in rest); unless (streams_fault (place_in whole rest) count.0) count

unfoldable pub subgroup_at : List ℕ → List ℕ → List ℕ → Result (Subgroup × List ℕ) BaseFault
subgroup_at whole before rest = do
  count ← streams_at whole rest
  codec ← field_at whole count.1 (octets_in 5 count.1)
  config ← run_at whole (is_lc3 codec.0) codec.1
  metadata ← run_at whole true config.1
  entries ← entries_at whole (is_lc3 codec.0) before count.0 metadata.1
  Ok (record { codec = codec.0; config = config.0; metadata = metadata.0; entries = entries.0 }, entries.1)

unfoldable pub subgroups_at : List ℕ → List ℕ → ℕ → List ℕ → Result (List Subgroup × List ℕ) BaseFault
subgroups_at whole before zero rest = Ok ([], rest)
subgroups_at whole before (suc n) rest = do
  first ← subgroup_at whole before rest
  others ← subgroups_at whole (before ++ map bis_of first.0.entries) n first.1
  Ok (first.0 ∷ others.0, others.1)

-- the octets behind the subgroups
abbrev pub rest_of : Result (List Subgroup × List ℕ) BaseFault → Result (List ℕ) BaseFault
rest_of (Ok read) = Ok read.1
rest_of (Err fault) = Err fault

-- the number of subgroups
unfoldable pub count_at : List ℕ → List ℕ → Result (ℕ × List ℕ) BaseFault
count_at whole rest = do count ← field_at whole rest (octet_in rest); unless (subgroups_fault count.0) count

abbrev pub ended : {A : Type 0} → List ℕ → List ℕ → A → Result A BaseFault
ended whole [] x = Ok x
ended whole (octet ∷ rest) x = Err (Trailing (place_in whole (octet ∷ rest)))

unfoldable pub fields_of : List ℕ → Result Endpoint BaseFault
fields_of whole = do
  delay ← field_at whole whole (number_in 3 whole)
  count ← count_at whole delay.1
  subgroups ← subgroups_at whole [] count.0 count.1
  ended whole subgroups.1 (endpoint delay.0 subgroups.0)

-- what a fault says of the octets: nothing, where memory ran out
abbrev pub told : BaseFault → Option BaseFault
told Memory = None
told fault = Some fault

-- it says nothing of them
abbrev pub wants : BaseFault → Bool
wants fault = is_none (told fault)

unfoldable pub base_of : List ℕ → Result Endpoint BaseFault
base_of whole = if nat_lt 252 (length whole) then Err TooLong else fields_of whole
