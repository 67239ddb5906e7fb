-- A train that is heard, and that some train brings what the code tells.
use Rattle.std.specs.Prelude.{◌≡◌}
use Rattle.delegator_history.specs.Trains as trains
use Rattle.delegator_history.specs.Trains.{outcome_by}
use Rattle.delegator_choices.specs.declared.outcome.TrainOutcome.{TrainOutcome}
use Rattle.delegator_choices.specs.State.Brings.{outcome_of}
use Rattle.delegator_control.specs.declared.train.Train.{Train}
use Rattle.delegator_control.specs.State.Machines.{Machine}

abbrev pub train_of : Train → trains.Train
train_of train = record {
  address_type = train.address_type;
  sid = train.sid;
  ext = train.ext.now;
  adv = train.adv.now;
  acad = train.acad.now;
  now = train.heard_at;
}

-- some train brings this to the machine
pub record IsOutcome (outcome : TrainOutcome) (m : Machine) : Type 0 where
  pub train : trains.Train
  pub is : outcome_of outcome ≡ outcome_by m.setup m.snapshot train
