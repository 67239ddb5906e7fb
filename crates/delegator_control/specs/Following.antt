-- Which trains a sink follows, and of which it reads a BASE (Basic Audio Profile 1.0, sections 3.7.2 and 6.5).
use Rattle.std.specs.Prelude.{Bool, true, false}
use Rattle.delegator_history.specs.declared.train_heard.TrainHeard.TheVariants as answers
use Rattle.delegator_history.specs.Trains.{TrainOutcome, ignored, heard, taken}

-- the answer is none of the first four
abbrev pub is_followed : TrainOutcome → Bool
is_followed (ignored answer) = false
is_followed (heard slot answer encrypted) = true
is_followed (taken slot bits encrypted big_sync) = true

-- the train is followed, and what it announces as BASE is one
abbrev pub has_base : TrainOutcome → Bool
has_base (ignored answer) = false
has_base (heard slot answers.NoBase encrypted) = false
has_base (heard slot answers.BadBase encrypted) = false
has_base (heard slot answer encrypted) = true
has_base (taken slot bits encrypted big_sync) = true
