-- The Sink PAC value (Published Audio Capabilities Service 1.0, section 3.1): Number_of_PAC_records, and for each record
-- Codec_ID of 5 octets, Codec_Specific_Capabilities behind their length, and Metadata behind its length. The metadata is
-- an LTV list, and so are the capabilities of LC3. A value has at most 512 octets, as each attribute has.
use Rattle.std.specs.Prelude.{ℕ, ◌<◌, ◌≤◌, ◌≡◌, List, ◌∷◌, ◌++◌, length}
use Rattle.std.specs.List.{flat_map, AllByRecursion}
use Rattle.base_grammar.specs.Layout.{lc3}
use Rattle.bcast_base.specs.Encoding.{counted}
use Rattle.ltv_codec.specs.Layout.{AreLtvs}
use Rattle.pacs_records.specs.declared.record.PacRecord.{PacRecord}

-- the most octets of a value
abbrev pub greatest_value : ℕ
greatest_value = 512

abbrev pub encoded : PacRecord → List ℕ
encoded entry = entry.codec ++ counted entry.caps ++ counted entry.metadata

pub record Fits (entry : PacRecord) : Type 0 where
  pub codec : length entry.codec ≡ 5
  pub caps_count : length entry.caps < 256
  pub metadata_count : length entry.metadata < 256
  pub caps : entry.codec ≡ lc3 → AreLtvs entry.caps
  pub metadata : AreLtvs entry.metadata

abbrev pub value : List PacRecord → List ℕ
value records = length records ∷ flat_map encoded records

pub record AreRecords (records : List PacRecord) : Type 0 where
  pub fit : AllByRecursion Fits records
  pub size : length (value records) ≤ greatest_value

-- the octets are the value of these records
pub record PacIs (records : List PacRecord) (octets : List ℕ) : Type 0 where
  pub are : AreRecords records
  pub is : octets ≡ value records
