use Rattle.announcement_train.proofs.Readings.{told}
use Rattle.announcement_train.proofs.laws.an_announcement_is_read.Goals as goal

pub returns : goal.returns
returns c = told
