use Rattle.group_sink.proofs.Sets.{members, set_rises}
use Rattle.group_sink.proofs.laws.streams_rise.Goals as goal

pub returns-clause-members : goal.returns-clause-members
returns-clause-members c set bis = members set bis

pub returns-clause-rising : goal.returns-clause-rising
returns-clause-rising c set = set_rises set
