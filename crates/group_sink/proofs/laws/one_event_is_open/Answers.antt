use Rattle.group_sink.proofs.Opened.{opened_is}
use Rattle.group_sink.proofs.laws.one_event_is_open.Goals as goal

pub returns : goal.returns
returns c big_sync calls bis = opened_is big_sync calls bis
