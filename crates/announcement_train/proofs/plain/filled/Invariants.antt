use Rattle.announcement_train.proofs.Prelude.{◌≡◌, plain_base_of}
use Rattle.announcement_train.proofs.plain.filled.Given as goal

abbrev pub invariant-streams : goal.invariant-streams
invariant-streams l = record { draft : l.draft ≡ plain_base_of l.delay l.n }
