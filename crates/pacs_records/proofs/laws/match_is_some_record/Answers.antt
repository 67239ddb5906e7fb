use Rattle.pacs_records.proofs.LastReasons.{not_taken-none, not_taken-some, some-not_taken, taken_not_told}
use Rattle.pacs_records.proofs.laws.match_is_some_record.Goals as goal

pub returns-clause-taken : goal.returns-clause-taken
returns-clause-taken c capability effective = not_taken-none capability effective

pub returns-clause-refused : goal.returns-clause-refused
returns-clause-refused c reason capability effective =
    (λ e. (taken_not_told capability effective reason e, not_taken-some capability effective reason e), λ (no_record, told). some-not_taken capability effective reason no_record told)
