use Rattle.std.proofs.Common.{ap, sym}
use Rattle.pacs_records.specs.Match.{number}
use Rattle.layouts_c.proofs.base.reason_number.Goals as goal

pub returns-in-Location : goal.returns-in-Location
returns-in-Location c = sym (ap number c.in-Location.is)
