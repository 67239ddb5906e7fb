use Rattle.replay_lines.proofs.Prelude.{◌∙◌, refl, ap, sym, subst, map, Ok, Err, UnassignedBy, meaning_of, standing_by, lines_over, arith}
use Rattle.bcast_io.specs.declared.document.Document.TheVariants.{Whole, TooLong}
use Rattle.bcast_io.specs.declared.piece.Unread.TheVariants.{Failed, Memory}
use Rattle.replay_lines.specs.declared.cause.Cause.TheVariants as causes
use Rattle.replay_lines.proofs.DocumentPromises.{ran_unfailed, read_at, read_toml}
use Rattle.replay_lines.proofs.Reading.{document_told, whole_is}
use Rattle.replay_lines.proofs.Unread.{failed_toml, laws_at, wanting_toml, refused_toml}
use Rattle.replay_lines.proofs.mode.run_toml.Goals as goal

pub returns-in-Ok-Whole-clause-promised : goal.returns-in-Ok-Whole-clause-promised
returns-in-Ok-Whole-clause-promised g c =
    let document = c.in-Ok-Whole.document in
    let is = c.in-Ok-Whole.is ∙ ap Ok c.in-Ok-Whole.field-0-is in
    read_toml _ _ (standing_by (meaning_of document)) c.run_document.result (grind (arith, whole_is, read_at)) c.run_document.ensures.runs
    (c.read_document.ensures.none_failed (λ fails. cc)) (laws_at c.want_of_memory_at_once.ensures _)

pub returns-in-Ok-TooLong-clause-promised : goal.returns-in-Ok-TooLong-clause-promised
returns-in-Ok-TooLong-clause-promised g c =
    let is = c.in-Ok-TooLong.is ∙ ap Ok c.in-Ok-TooLong.field-0-is in
    let put = c.refuse.ensures in
    refused_toml _ _ causes.TooLong c.refuse.result (read_at _ _ c.read_document.result (Ok TooLong) is c.read_document.ensures.reads)
    (record { boxes = refl; puts = put.refuses; write_fault = put.write_fault; no_write_fault = put.no_write_fault })
    (c.read_document.ensures.none_failed (λ fails. cc)) (laws_at c.want_of_memory_at_once.ensures _)

pub returns-in-Err-Failed-clause-promised : goal.returns-in-Err-Failed-clause-promised
returns-in-Err-Failed-clause-promised g c =
    let is = c.in-Err-Failed.is ∙ ap Err c.in-Err-Failed.field-0-is in
    failed_toml _ (g.S.ByteSource.left c.read_document.new.source) (g.S.ByteSource.faults c.read_document.new.source)
    (read_at _ _ c.read_document.result (Err Failed) is c.read_document.ensures.reads)
    (c.read_document.ensures.failed is) (laws_at c.want_of_memory_at_once.ensures _)

pub returns-in-Err-Memory-clause-promised : goal.returns-in-Err-Memory-clause-promised
returns-in-Err-Memory-clause-promised g c =
    let is = c.in-Err-Memory.is ∙ ap Err c.in-Err-Memory.field-0-is in
    wanting_toml _ (g.S.ByteSource.left c.read_document.new.source) (g.S.ByteSource.faults c.read_document.new.source)
    (read_at _ _ c.read_document.result (Err Memory) is c.read_document.ensures.reads)
    (c.read_document.ensures.none_failed (λ fails. cc)) (laws_at c.want_of_memory_at_once.ensures _)

pub returns-in-Ok-Whole-clause-unassigned : goal.returns-in-Ok-Whole-clause-unassigned
returns-in-Ok-Whole-clause-unassigned g c told airs tells meets =
    let boxes = map (λ b. (goal.Outlet-dyn g (b.vtable, b.value)).account b.value) c.args.outlets.now.items in
    let document = c.in-Ok-Whole.document in
    let is = c.in-Ok-Whole.is ∙ ap Ok c.in-Ok-Whole.field-0-is in
    let left = g.S.ByteSource.left c.args.source.now in
    let left' = g.S.ByteSource.left c.read_document.new.source in
    let read = whole_is left left' document
    (read_at left left' c.read_document.result (Ok (Whole document)) is c.read_document.ensures.reads) in
    subst (λ standing. UnassignedBy airs boxes (lines_over standing) c.args.outlets.now.items c.run_document.new.outlets.items)
    (sym (document_told left left' told tells (standing_by (meaning_of document)) read)) (c.run_document.ensures.unassigned airs meets)

pub returns-in-Ok-Whole-clause-uncalled : goal.returns-in-Ok-Whole-clause-uncalled
returns-in-Ok-Whole-clause-uncalled g c is = grind (arith, map, ran_unfailed, standing_by, meaning_of)
