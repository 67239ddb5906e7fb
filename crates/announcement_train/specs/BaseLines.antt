-- The subgroups of a BASE (Basic Audio Profile 1.0, section 3.7.2.2), of what the lines of a source say. Lists of lines have
-- the newest first; lists of subgroups and of entries have the oldest first.
use Rattle.std.specs.Prelude.{ℕ, List, [], ◌∷◌, ◌++◌, Option, None, Some, unwrap_or}
use Rattle.std.specs.Option.{option_or}
use Rattle.base_grammar.specs.declared.subgroup.BaseEntry.{BaseEntry}
use Rattle.base_grammar.specs.declared.subgroup.Subgroup.{Subgroup}

-- a line opens a subgroup, gives the last one its metadata, or adds an entry to it
pub data BaseLine : Type 0 where
  opens : (codec config : List ℕ) → BaseLine
  describes : (metadata : List ℕ) → BaseLine
  adds : (bis : ℕ) (config : List ℕ) → BaseLine

-- The subgroups of these lines, where the entries and the metadata of the last one are said behind them: a subgroup has the
-- entries that are added before the next one is opened, and the metadata that is given last.
abbrev pub subgroups_before : List BaseEntry → Option (List ℕ) → List BaseLine → List Subgroup
subgroups_before entries metadata [] = []
subgroups_before entries metadata (opens codec config ∷ earlier) = subgroups_before [] None earlier
    ++ record { codec = codec; config = config; metadata = unwrap_or metadata []; entries = entries } ∷ []
subgroups_before entries metadata (describes said ∷ earlier) = subgroups_before entries (option_or metadata (Some said)) earlier
subgroups_before entries metadata (adds bis config ∷ earlier) =
    subgroups_before (record { bis = bis; config = config } ∷ entries) metadata earlier

abbrev pub subgroups_in : List BaseLine → List Subgroup
subgroups_in lines = subgroups_before [] None lines
