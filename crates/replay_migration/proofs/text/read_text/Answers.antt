use Rattle.std.proofs.Common.{◌∙◌, length, Ok, ap, refl, sym, arith}
use Rattle.replay_migration.specs.declared.piece.Unread.TheVariants as unreads
use Rattle.replay_migration.proofs.Endings.{none_read, begin_read, whole_read, past_read, part_read, consumed_more, reads_at, room_stays, ok_is_no_fault}
use Rattle.replay_migration.proofs.text.read_text.Goals as goal

pub returns-in_default-clause-reads : goal.returns-in_default-clause-reads
returns-in_default-clause-reads g c = none_read (g.S.ByteSource.left c.args.source.now)

pub pieces-init : goal.pieces-init
pieces-init g c = record {
  read = begin_read (g.S.ByteSource.left c.args.source.now) c.new-text.result c.new-text.ensures;
  within = omega (arith, ap length c.new-text.ensures);
  room = c.in-Ok.ensures;
  reads = refl;
}

pub pieces-preserved : goal.pieces-preserved
pieces-preserved g c =
    let took = reads_at _ _ _ _ _ _ (c.in-Ok-Taken.is ∙ ap Ok c.in-Ok-Taken.field-0-is) c.read_piece.ensures.reads in
    record {
      read = consumed_more _ _ _ _ _ c.pieces.invariant.read took;
      within = took.within;
      room = room_stays _ _ _ (sym c.deref_mut.ensures.len ∙ ap length c.deref_mut.ensures.value) c.pieces.invariant.room;
      reads = c.read_piece.ensures.none_failed (ok_is_no_fault _ c.in-Ok-Taken.field-0 unreads.Failed c.in-Ok-Taken.is) ∙ c.pieces.invariant.reads;
    }

pub returns-in-Ok-End-clause-reads : goal.returns-in-Ok-End-clause-reads
returns-in-Ok-End-clause-reads g c =
    whole_read _ _ _ _ c.pieces.invariant.read c.pieces.invariant.within _
    (reads_at _ _ _ _ _ _ (c.in-Ok-End.is ∙ ap Ok c.in-Ok-End.field-0-is) c.read_piece.ensures.reads)

pub returns-in-Ok-PastLimit-clause-reads : goal.returns-in-Ok-PastLimit-clause-reads
returns-in-Ok-PastLimit-clause-reads g c =
    past_read _ _ _ _ c.pieces.invariant.read c.pieces.invariant.within _
    (reads_at _ _ _ _ _ _ (c.in-Ok-PastLimit.is ∙ ap Ok c.in-Ok-PastLimit.field-0-is) c.read_piece.ensures.reads)

pub returns-in-Err-clause-reads : goal.returns-in-Err-clause-reads
returns-in-Err-clause-reads g c =
    part_read _ _ _ _ c.pieces.invariant.read c.pieces.invariant.within c.read_piece.new.text c.in-Err.unread
    (reads_at _ _ _ _ _ _ c.in-Err.is c.read_piece.ensures.reads)
