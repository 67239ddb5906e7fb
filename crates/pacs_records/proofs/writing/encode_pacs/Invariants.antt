use Rattle.pacs_records.proofs.Prelude.{◌≡◌, ◌∷◌, length, take, flat_map, encoded}
use Rattle.pacs_records.proofs.writing.encode_pacs.Given as goal

abbrev pub invariant-loop-entry : goal.invariant-loop-entry
invariant-loop-entry l = l.out ≡ length l.records ∷ flat_map encoded (take l.entry-index l.records)
