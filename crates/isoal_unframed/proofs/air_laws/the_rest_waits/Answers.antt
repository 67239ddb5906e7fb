use Rattle.isoal_unframed.proofs.Airs.{begun_within, waiting_is}
use Rattle.isoal_unframed.proofs.air_laws.the_rest_waits.Goals as goal

pub returns-clause-waiting : goal.returns-clause-waiting
returns-clause-waiting c = λ info calls sender stands. waiting_is info calls sender stands

pub returns-clause-within : goal.returns-clause-within
returns-clause-within c = λ info calls. begun_within info calls
