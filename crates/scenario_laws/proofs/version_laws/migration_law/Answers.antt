use Rattle.scenario_laws.proofs.Known.Sources.Steps.Prelude.{arith}
use Rattle.scenario_laws.proofs.Versions.Migrating.{migration_law_holds}
use Rattle.scenario_laws.proofs.version_laws.migration_law.Goals as goal

pub returns : goal.returns
returns c = migration_law_holds (assumption) (grind arith) c.some_airs_meet.ensures
