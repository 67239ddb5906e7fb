-- What a train brings, as the code tells it.
use Rattle.delegator_history.specs.Trains as trains
use Rattle.delegator_history.specs.Trains.{ignored, heard, taken}
use Rattle.delegator_choices.specs.declared.outcome.TrainOutcome.{TrainOutcome}
use Rattle.delegator_choices.specs.declared.outcome.TrainOutcome.TheVariants.{Ignored, Heard, Taken}

abbrev pub outcome_of : TrainOutcome → trains.TrainOutcome
outcome_of (Ignored answer) = ignored answer
outcome_of (Heard slot answer encrypted) = heard slot answer encrypted
outcome_of (Taken slot bits encrypted big_sync) = taken slot bits encrypted big_sync
