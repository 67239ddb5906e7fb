-- Where octets stop to be a BASE (Basic Audio Profile 1.0, section 3.7.2.2). From the left, as many whole fields as
-- possible are taken that each meet their row, given the fields before them. The place behind them is the cut, and the
-- fault says what stands there: a field that is not whole, one that breaks its row, or octets behind a whole BASE.
use Rattle.std.specs.Prelude.{ℕ, zero, suc, ◌+◌, ◌<◌, ◌≤◌, ◌≡◌, Bool, true, false, List, [], ◌∷◌, ◌++◌, length, get_or, take, Option, Some, None, nat_lt, if◌then◌else◌}
use Rattle.std.specs.List.{concat}
use Rattle.base_grammar.specs.declared.fault.BaseFault.{BaseFault}
use Rattle.base_grammar.specs.declared.fault.BaseFault.TheVariants.{Short, Trailing, TooLong, Memory}
use Rattle.base_grammar.specs.Layout.{Endpoint, is_lc3, BaseIs}
use Rattle.base_grammar.specs.Rows.{subgroups_fault, streams_fault, index_fault, run_fault}

-- the row of a field; a run has as many octets as the length before it says
pub data Row : Type 0 where
  presentation_delay : Row
  num_subgroups : Row
  num_bis : Row
  codec_id : Row
  config_length : Row
  config : (count : ℕ) → Row
  metadata_length : Row
  metadata : (count : ℕ) → Row
  bis_index : Row
  bis_config_length : Row
  bis_config : (count : ℕ) → Row
  nothing : Row  -- all fields of a BASE stand before

-- what is due behind some fields: the row, whether the subgroup's Codec_ID is LC3, how many entries of the subgroup and
-- how many subgroups are not yet whole, and the indices so far
pub record Due : Type 0 where
  pub row : Row
  pub is_lc3 : Bool
  pub streams : ℕ
  pub subgroups : ℕ
  pub before : List ℕ

abbrev pub first_due : Due
first_due = record { row = presentation_delay; is_lc3 = false; streams = 0; subgroups = 0; before = [] }

-- the octets of a field of this row
abbrev pub width : Row → ℕ
width presentation_delay = 3
width num_subgroups = 1
width num_bis = 1
width codec_id = 5
width config_length = 1
width (config count) = count
width metadata_length = 1
width (metadata count) = count
width bis_index = 1
width bis_config_length = 1
width (bis_config count) = count
width nothing = 0

-- the number of a field of one octet
abbrev pub number_of : List ℕ → ℕ
number_of field = get_or field 0 0

-- what is wrong with a whole field of this row, at this place
abbrev pub row_fault : Row → ℕ → Due → List ℕ → Option BaseFault
row_fault presentation_delay place due field = None
row_fault num_subgroups place due field = subgroups_fault (number_of field)
row_fault num_bis place due field = streams_fault place (number_of field)
row_fault codec_id place due field = None
row_fault config_length place due field = None
row_fault (config count) place due field = run_fault place due.is_lc3 field
row_fault metadata_length place due field = None
row_fault (metadata count) place due field = run_fault place true field
row_fault bis_index place due field = index_fault place due.before (number_of field)
row_fault bis_config_length place due field = None
row_fault (bis_config count) place due field = run_fault place due.is_lc3 field
row_fault nothing place due field = None

-- behind the last entry of a subgroup: the next subgroup, or nothing
abbrev pub behind_subgroup : ℕ → Due → Due
behind_subgroup zero due = record due { row = nothing }
behind_subgroup (suc zero) due = record due { row = nothing }
behind_subgroup (suc (suc left)) due = record due { row = num_bis; subgroups = suc left }

-- behind an entry: the next entry, or what follows the subgroup
abbrev pub behind_entry : ℕ → Due → Due
behind_entry zero due = behind_subgroup due.subgroups due
behind_entry (suc zero) due = behind_subgroup due.subgroups due
behind_entry (suc (suc left)) due = record due { row = bis_index; streams = suc left }

-- what is due behind one field more
abbrev pub next_due : Row → Due → List ℕ → Due
next_due presentation_delay due field = record due { row = num_subgroups }
next_due num_subgroups due field = record due { row = num_bis; subgroups = number_of field }
next_due num_bis due field = record due { row = codec_id; streams = number_of field }
next_due codec_id due field = record due { row = config_length; is_lc3 = is_lc3 field }
next_due config_length due field = record due { row = config (number_of field) }
next_due (config count) due field = record due { row = metadata_length }
next_due metadata_length due field = record due { row = metadata (number_of field) }
next_due (metadata count) due field = record due { row = bis_index }
next_due bis_index due field = record due { row = bis_config_length; before = due.before ++ number_of field ∷ [] }
next_due bis_config_length due field = record due { row = bis_config (number_of field) }
next_due (bis_config count) due field = behind_entry due.streams due
next_due nothing due field = due

-- a field is due
abbrev pub IsDue : Row → Type 0
IsDue nothing = ⊥
IsDue row = Unit {0}

-- what is due behind the fields
unfoldable pub due_behind : Due → List (List ℕ) → Due
due_behind due [] = due
due_behind due (field ∷ fields) = due_behind (next_due due.row due field) fields

-- the field is whole and meets its row
pub record Meets (place : ℕ) (due : Due) (field : List ℕ) : Type 0 where
  pub is_due : IsDue due.row
  pub whole : length field ≡ width due.row
  pub sound : row_fault due.row place due field ≡ None

-- each field, the first of which stands at this place, meets its row, given those before
unfoldable pub AllMeet : ℕ → Due → List (List ℕ) → Type 0
AllMeet place due [] = Unit {0}
AllMeet place due (field ∷ fields) = Meets place due field × AllMeet (place + length field) (next_due due.row due field) fields

-- what stands at the cut: the next field is not whole, or breaks its row
abbrev pub field_fault : Row → ℕ → Due → List ℕ → Option BaseFault
field_fault row place due rest = if nat_lt (length rest) (width row) then Some (Short place) else row_fault row place due (take (width row) rest)

-- octets follow
abbrev pub ending_fault : ℕ → List ℕ → Option BaseFault
ending_fault place [] = None
ending_fault place (octet ∷ rest) = Some (Trailing place)

abbrev pub cut_fault : Row → ℕ → Due → List ℕ → Option BaseFault
cut_fault nothing place due rest = ending_fault place rest
cut_fault row place due rest = field_fault row place due rest

-- whole fields up to the cut, and there this fault
pub record AtCut (fault : BaseFault) (octets : List ℕ) : Type 0 where
  pub fields : List (List ℕ)
  pub rest : List ℕ
  pub meet : AllMeet 0 first_due fields
  pub parts : octets ≡ concat fields ++ rest
  pub stands : cut_fault (due_behind first_due fields).row (length (concat fields)) (due_behind first_due fields) rest ≡ Some fault

-- this is what is wrong with the octets
abbrev pub IsBad : BaseFault → List ℕ → Type 0
IsBad TooLong octets = 252 < length octets
IsBad Memory octets = ⊥
IsBad fault octets = (length octets ≤ 252) × AtCut fault octets

-- why they were not decoded; only a BASE is refused for want of memory
abbrev pub IsFault : BaseFault → List ℕ → Type 0
IsFault Memory octets = (v : Endpoint) × BaseIs v octets
IsFault fault octets = IsBad fault octets
