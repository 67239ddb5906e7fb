-- What is wrong with octets that are no Sink PAC value (Published Audio Capabilities Service 1.0, section 3.1). Take the
-- longest run of whole fields from the left that each meet their row. It ends at the cut, where the next field isn't
-- whole, or breaks its row, or where octets follow a whole value.
use Rattle.std.specs.Prelude.{ℕ, ◌+◌, ◌<◌, ◌≤◌, ◌≡◌, List, [], ◌∷◌, ◌++◌, length}
use Rattle.std.specs.List.{flat_map, AllByRecursion}
use Rattle.bcast_base.specs.Encoding.{counted}
use Rattle.ltv_codec.specs.declared.fault.LtvBad.{LtvBad}
use Rattle.ltv_codec.specs.Faults.{IsBad}
use Rattle.ltv_codec.specs.Layout.{AreLtvs}
use Rattle.pacs_records.specs.declared.fault.PacFault.{PacFault}
use Rattle.pacs_records.specs.declared.fault.PacFault.TheVariants.{TooLong, Short, Ltv, Trailing, Memory}
use Rattle.pacs_records.specs.declared.record.PacRecord.{PacRecord}
use Rattle.base_grammar.specs.Layout.{lc3}
use Rattle.pacs_records.specs.Layout.{greatest_value, encoded, value, Fits, PacIs}

-- The whole fields of a record that isn't read to its end. Each names the field that comes next.
pub data Fields : Type 0 where
  -- the Codec_ID
  to_codec : Fields
  -- the length of the capabilities
  to_caps_length : (codec : List ℕ) → Fields
  -- so many octets of capabilities
  to_caps : (codec : List ℕ) (count : ℕ) → Fields
  -- the length of the metadata
  to_metadata_length : (codec caps : List ℕ) → Fields
  -- so many octets of metadata
  to_metadata : (codec caps : List ℕ) (count : ℕ) → Fields

-- the octets of these fields
abbrev pub octets_of : Fields → List ℕ
octets_of to_codec = []
octets_of (to_caps_length codec) = codec
octets_of (to_caps codec count) = codec ++ count ∷ []
octets_of (to_metadata_length codec caps) = codec ++ counted caps
octets_of (to_metadata codec caps count) = codec ++ counted caps ++ count ∷ []

-- how many octets the next field has
abbrev pub next_length : Fields → ℕ
next_length to_codec = 5
next_length (to_caps_length codec) = 1
next_length (to_caps codec count) = count
next_length (to_metadata_length codec caps) = 1
next_length (to_metadata codec caps count) = count

-- the codec is whole, and capabilities of LC3 are an LTV list
abbrev pub MeetRows : Fields → Type 0
MeetRows to_codec = Unit {0}
MeetRows (to_caps_length codec) = length codec ≡ 5
MeetRows (to_caps codec count) = length codec ≡ 5
MeetRows (to_metadata_length codec caps) = (length codec ≡ 5) × (codec ≡ lc3 → AreLtvs caps)
MeetRows (to_metadata codec caps count) = (length codec ≡ 5) × (codec ≡ lc3 → AreLtvs caps)

-- the next field is a list that has to be an LTV list
abbrev pub IsNextList : Fields → Type 0
IsNextList to_codec = ⊥
IsNextList (to_caps_length codec) = ⊥
IsNextList (to_caps codec count) = codec ≡ lc3
IsNextList (to_metadata_length codec caps) = ⊥
IsNextList (to_metadata codec caps count) = Unit {0}

-- the cut behind the number of records, whole records, and whole fields of one more
pub record Cut (place : ℕ) (octets : List ℕ) : Type 0 where
  pub count : ℕ
  pub records : List PacRecord
  pub fields : Fields
  pub rest : List ℕ
  pub due : length records < count
  pub fit : AllByRecursion Fits records
  pub meet : MeetRows fields
  pub parts : octets ≡ count ∷ (flat_map encoded records ++ octets_of fields ++ rest)
  pub at : place ≡ 1 + length (flat_map encoded records) + length (octets_of fields)

-- the field at the cut isn't whole, and there is none where there is no octet
abbrev pub IsShort : ℕ → List ℕ → Type 0
IsShort place [] = place ≡ 0
IsShort place (first ∷ octets) = (cut : Cut place (first ∷ octets)) × (length cut.rest < next_length cut.fields)

-- the field at the cut is whole, is to be an LTV list, and is none
pub record IsNoList (place : ℕ) (bad : LtvBad) (octets : List ℕ) : Type 0 where
  pub cut : Cut place octets
  pub list : IsNextList cut.fields
  pub run : List ℕ
  pub behind : List ℕ
  pub whole : length run ≡ next_length cut.fields
  pub parts : cut.rest ≡ run ++ behind
  pub what : IsBad bad run

-- octets follow a whole value
pub record IsTrailing (place : ℕ) (octets : List ℕ) : Type 0 where
  pub records : List PacRecord
  pub rest : List ℕ
  pub fit : AllByRecursion Fits records
  pub more : 0 < length rest
  pub parts : octets ≡ value records ++ rest
  pub at : place ≡ length (value records)

-- this is what is wrong with the octets; only a value that has a record is refused for want of memory
abbrev pub IsFault : PacFault → List ℕ → Type 0
IsFault TooLong octets = greatest_value < length octets
IsFault (Short place) octets = (length octets ≤ greatest_value) × IsShort place octets
IsFault (Ltv place bad) octets = (length octets ≤ greatest_value) × IsNoList place bad octets
IsFault (Trailing place) octets = (length octets ≤ greatest_value) × IsTrailing place octets
IsFault Memory octets = (records : List PacRecord) × PacIs records octets × (0 < length records)
