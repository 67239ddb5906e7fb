-- Reading a Sink PAC value (Published Audio Capabilities Service 1.0, section 3.1) field by field, with the first fault
-- that is met.
use Rattle.std.specs.Prelude.{ℕ, zero, suc, Bool, true, false, List, [], ◌∷◌, length, Option, Some, None, Result, Ok, Err, nat_lt, ◌==◌, if◌then◌else◌}
use Rattle.bcast_base.specs.Reading.{octet_in, octets_in, place_in}
use Rattle.bcast_base.specs.Tries.{◌>>=◌, needed}
use Rattle.ltv_codec.specs.declared.fault.LtvBad.{LtvBad}
use Rattle.ltv_codec.specs.Reading.{bad_of}
use Rattle.pacs_records.specs.declared.fault.PacFault.{PacFault}
use Rattle.pacs_records.specs.declared.fault.PacFault.TheVariants.{TooLong, Short, Ltv, Trailing, Memory}
use Rattle.pacs_records.specs.declared.record.PacRecord.{PacRecord}
use Rattle.base_grammar.specs.Layout.{is_lc3}
use Rattle.pacs_records.specs.Layout.{greatest_value}

-- what a fault says of the octets: nothing, where memory ran out for the records
abbrev pub told : PacFault → Option PacFault
told Memory = None
told fault = Some fault

-- a whole field, or the place at which it begins
abbrev pub field_at : {A : Type 0} → ℕ → Option A → Result A PacFault
field_at place field = needed (Short place) field

abbrev pub codec_in : List ℕ → List ℕ → Result (List ℕ × List ℕ) PacFault
codec_in whole from = field_at (place_in whole from) (octets_in 5 from)

-- a run that was read from this place on, if it is an LTV list or need not be one
abbrev pub checked : ℕ → Bool → Option LtvBad → List ℕ × List ℕ → Result (List ℕ × List ℕ) PacFault
checked place true (Some bad) run = Err (Ltv place bad)
checked place true None run = Ok run
checked place false bad run = Ok run

-- a run behind its count
unfoldable pub run_in : Bool → List ℕ → List ℕ → Result (List ℕ × List ℕ) PacFault
run_in listed whole from = do
  count ← field_at (place_in whole from) (octet_in from)
  run ← field_at (place_in whole count.1) (octets_in count.0 count.1)
  checked (place_in whole count.1) listed (bad_of run.0) run

unfoldable pub record_in : List ℕ → List ℕ → Result (PacRecord × List ℕ) PacFault
record_in whole from = do
  codec ← codec_in whole from
  caps ← run_in (is_lc3 codec.0) whole codec.1
  metadata ← run_in true whole caps.1
  Ok (record { codec = codec.0; caps = caps.0; metadata = metadata.0 }, metadata.1)

-- so many records
unfoldable pub records_in : List ℕ → ℕ → List ℕ → Result (List PacRecord × List ℕ) PacFault
records_in whole zero from = Ok ([], from)
records_in whole (suc count) from = do
  first ← record_in whole from
  others ← records_in whole count first.1
  Ok (first.0 ∷ others.0, others.1)

-- the records, and the octets behind them
abbrev pub list_of : Result (List PacRecord × List ℕ) PacFault → Result (List PacRecord) PacFault
list_of (Ok read) = Ok read.0
list_of (Err fault) = Err fault

abbrev pub rest_of : Result (List PacRecord × List ℕ) PacFault → Result (List ℕ) PacFault
rest_of (Ok read) = Ok read.1
rest_of (Err fault) = Err fault

-- all of the octets
unfoldable pub value_in : List ℕ → Result (List PacRecord) PacFault
value_in octets =
    if nat_lt greatest_value (length octets) then Err TooLong
    else (field_at 0 (octet_in octets) >>= λ count.
    records_in octets count.0 count.1 >>= λ records.
    if length records.1 == 0 then Ok records.0 else Err (Trailing (place_in octets records.1)))
