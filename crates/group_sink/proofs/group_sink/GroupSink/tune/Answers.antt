use Rattle.group_sink.proofs.group_sink.GroupSink.tune.Goals as goal

pub returns-clause-stands : goal.returns-clause-stands
returns-clause-stands c calls = c.sync_to_group.ensures c.args.big_sync.now calls c.in_ok-receivers.ensures
