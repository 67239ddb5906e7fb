-- When a record is refused (the limit of an attribute value: Core 5.2, volume 3 part F, section 3.2.9).
use Rattle.std.specs.Prelude.{◌<◌, ◌≤◌, List, [], ◌∷◌, ◌++◌, length}
use Rattle.pacs_records.specs.declared.fault.PushFault.{PushFault}
use Rattle.pacs_records.specs.declared.fault.PushFault.TheVariants.{TooLong, Memory}
use Rattle.pacs_records.specs.declared.record.PacRecord.{PacRecord}
use Rattle.pacs_records.specs.Layout.{value, greatest_value}

-- why this record was not put behind these; memory may want only where the value has room
abbrev pub RefusesPush : PushFault → List PacRecord → PacRecord → Type 0
RefusesPush TooLong records entry = greatest_value < length (value (records ++ entry ∷ []))
RefusesPush Memory records entry = length (value (records ++ entry ∷ [])) ≤ greatest_value
