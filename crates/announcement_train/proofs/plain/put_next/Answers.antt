use Rattle.announcement_train.proofs.PlainBases.{put_is, wants_memory}
use Rattle.announcement_train.proofs.plain.put_next.Goals as goal

pub wanting-requires : goal.wanting-requires
wanting-requires c =
    wants_memory c.args.draft.now c.args.delay c.args.n c.index_behind.result c.in-Err.fault c.requires.draft c.index_behind.ensures c.in-Err.ensures.refuses

pub returns-in-Ok : goal.returns-in-Ok
returns-in-Ok c =
    put_is c.args.draft.now c.bis.new.self c.args.delay c.args.n c.index_behind.result c.requires.draft c.index_behind.ensures c.in-Ok.ensures.ok
