use Rattle.group_sink.proofs.OneStream.{framed_hands, others_hand_nothing, unframed_hands}
use Rattle.group_sink.proofs.laws.each_stream_hands_its_units.Goals as goal

pub returns-clause-unframed : goal.returns-clause-unframed
returns-clause-unframed c big_sync calls bis plain is at = unframed_hands big_sync calls bis plain is at

pub returns-clause-framed : goal.returns-clause-framed
returns-clause-framed c big_sync calls bis framed is at = framed_hands big_sync calls bis framed is at

pub returns-clause-others : goal.returns-clause-others
returns-clause-others c big_sync calls bis is out = others_hand_nothing big_sync calls bis is out
