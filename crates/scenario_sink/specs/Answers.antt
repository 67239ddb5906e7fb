-- Which answers to a train leave the sink on it or on its group (Basic Audio Profile 1.0, section 6.5).
use Rattle.std.specs.Prelude.{Bool, true, false}
use Rattle.delegator_history.specs.declared.train_heard.TrainHeard.{TrainHeard}
use Rattle.delegator_history.specs.declared.train_heard.TrainHeard.TheVariants.{NoBroadcastId, NotWanted, OtherTrain, AlreadyOnGroup}

abbrev pub is_followed : TrainHeard → Bool
is_followed NoBroadcastId = false
is_followed NotWanted = false
is_followed OtherTrain = false
is_followed AlreadyOnGroup = false
is_followed _ = true
