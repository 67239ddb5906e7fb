use Rattle.explain_command.proofs.Prelude.{◌≡◌, ◌∙◌, ap, sym, subst, map, Some, Ok, Err, DocumentIs, lines_at, told_at, told_world, lines_over, standing_by, document_told, prefix_read, read_at, whole_is}
use Rattle.bcast_io.specs.declared.document.Document.TheVariants.{Whole, TooLong}
use Rattle.bcast_io.specs.declared.piece.Unread.TheVariants.{Failed, Memory}
use Rattle.replay_steps.specs.Unassigned.{UnassignedBy}
use Rattle.replay_lines.specs.declared.cause.Cause.TheVariants as causes
use Rattle.scenario_toml.specs.Document.{meaning_of}
use Rattle.explain_command.proofs.Documents.{told_refused, told_text, told_unread, told_wanting}
use Rattle.explain_command.proofs.document.explain_toml.Goals as goal

pub returns-in-Ok-clause-told : goal.returns-in-Ok-clause-told
returns-in-Ok-clause-told g c =
    let boxes = map (λ b. (goal.Outlet-dyn g (b.vtable, b.value)).account b.value) c.args.outlets.now.items in
    let old = told_world (g.S.ByteSource.left c.args.source.now) (g.S.ByteSource.faults c.args.source.now) g.W.ByteSink.contents g.W.ByteSink.faults
    c.args.sink.now boxes in
    let left = g.S.ByteSource.left c.read_document.new.source in
    let reads = g.S.ByteSource.faults c.read_document.new.source in
    let before = lines_at c.args.sink.now.place (g.W.ByteSink.contents c.args.sink.now.inner) in
    let document = c.in-Ok-Whole.document in
    let is = c.in-Ok-Whole.is ∙ ap Ok c.in-Ok-Whole.field-0-is in
    let read = whole_is old.left left document (read_at old.left left c.read_document.result (Ok (Whole document)) is c.read_document.ensures.reads) in
    let lent = c.as_slice.ensures in
    let viewed = c.document.view_is in
    let same : c.as_slice.result.now ≡ document = cc in
    let after = map (λ b. (goal.Outlet-dyn g (b.vtable, b.value)).account b.value) c.explain.new.outlets.items in
    let sink = c.explain.new.sink in
    told_text old left (Some c.explain.new.source.left) reads (told_at sink.place (g.W.ByteSink.contents sink.inner)) (g.W.ByteSink.faults sink.inner)
    after before (lines_at sink.place (g.W.ByteSink.contents sink.inner)) c.in-Ok.text c.explain.result c.new-lines.result.left
    (ap (λ s. s.left) c.new-lines.ensures)
    (subst (λ standing. DocumentIs old.left left standing) (ap standing_by (ap meaning_of (sym same) ∙ c.in-Ok.ensures.ok)) read)
    (c.read_document.ensures.none_failed (λ fails. cc)) c.explain.ensures.told

pub returns-in-Ok-clause-unassigned : goal.returns-in-Ok-clause-unassigned
returns-in-Ok-clause-unassigned g c told airs tells meets =
    let boxes = map (λ b. (goal.Outlet-dyn g (b.vtable, b.value)).account b.value) c.args.outlets.now.items in
    let old = told_world (g.S.ByteSource.left c.args.source.now) (g.S.ByteSource.faults c.args.source.now) g.W.ByteSink.contents g.W.ByteSink.faults
    c.args.sink.now boxes in
    let left = g.S.ByteSource.left c.read_document.new.source in
    let reads = g.S.ByteSource.faults c.read_document.new.source in
    let before = lines_at c.args.sink.now.place (g.W.ByteSink.contents c.args.sink.now.inner) in
    let document = c.in-Ok-Whole.document in
    let is = c.in-Ok-Whole.is ∙ ap Ok c.in-Ok-Whole.field-0-is in
    let read = whole_is old.left left document (read_at old.left left c.read_document.result (Ok (Whole document)) is c.read_document.ensures.reads) in
    let lent = c.as_slice.ensures in
    let viewed = c.document.view_is in
    let same : c.as_slice.result.now ≡ document = cc in
    let means = document_told old.left left told tells (standing_by (meaning_of document)) read
    ∙ ap standing_by (ap meaning_of (sym same) ∙ c.in-Ok.ensures.ok) in
    subst (λ standing. UnassignedBy airs boxes (lines_over standing) c.args.outlets.now.items c.explain.new.outlets.items) (sym means)
    (c.explain.ensures.unassigned c.in-Ok.text airs (ap (λ s. Some s.left) c.new-lines.ensures) meets)

pub returns-in-Err-BadToml-clause-told : goal.returns-in-Err-BadToml-clause-told
returns-in-Err-BadToml-clause-told g c =
    let boxes = map (λ b. (goal.Outlet-dyn g (b.vtable, b.value)).account b.value) c.args.outlets.now.items in
    let old = told_world (g.S.ByteSource.left c.args.source.now) (g.S.ByteSource.faults c.args.source.now) g.W.ByteSink.contents g.W.ByteSink.faults
    c.args.sink.now boxes in
    let left = g.S.ByteSource.left c.read_document.new.source in
    let reads = g.S.ByteSource.faults c.read_document.new.source in
    let before = lines_at c.args.sink.now.place (g.W.ByteSink.contents c.args.sink.now.inner) in
    let document = c.in-Ok-Whole.document in
    let is = c.in-Ok-Whole.is ∙ ap Ok c.in-Ok-Whole.field-0-is in
    let read = whole_is old.left left document (read_at old.left left c.read_document.result (Ok (Whole document)) is c.read_document.ensures.reads) in
    let lent = c.as_slice.ensures in
    let viewed = c.document.view_is in
    let same : c.as_slice.result.now ≡ document = cc in
    let laws = (c.want_of_memory_before_a_document.ensures old).laws in
    let sink = c.refuse.new.sink in
    let why = c.in-Err-BadToml.is ∙ ap Err c.in-Err-BadToml.field-0-is in
    told_refused old left reads before laws (told_at sink.place (g.W.ByteSink.contents sink.inner)) (g.W.ByteSink.faults sink.inner)
    (lines_at sink.place (g.W.ByteSink.contents sink.inner)) causes.BadToml c.refuse.result
    (subst (λ standing. DocumentIs old.left left standing) (ap standing_by (ap meaning_of (sym same) ∙ c.lines_of.ensures.bad_toml why)) read)
    (c.read_document.ensures.none_failed (λ fails. cc)) c.refuse.ensures

pub returns-in-Err-BadDocument-clause-told : goal.returns-in-Err-BadDocument-clause-told
returns-in-Err-BadDocument-clause-told g c =
    let boxes = map (λ b. (goal.Outlet-dyn g (b.vtable, b.value)).account b.value) c.args.outlets.now.items in
    let old = told_world (g.S.ByteSource.left c.args.source.now) (g.S.ByteSource.faults c.args.source.now) g.W.ByteSink.contents g.W.ByteSink.faults
    c.args.sink.now boxes in
    let left = g.S.ByteSource.left c.read_document.new.source in
    let reads = g.S.ByteSource.faults c.read_document.new.source in
    let before = lines_at c.args.sink.now.place (g.W.ByteSink.contents c.args.sink.now.inner) in
    let document = c.in-Ok-Whole.document in
    let is = c.in-Ok-Whole.is ∙ ap Ok c.in-Ok-Whole.field-0-is in
    let read = whole_is old.left left document (read_at old.left left c.read_document.result (Ok (Whole document)) is c.read_document.ensures.reads) in
    let lent = c.as_slice.ensures in
    let viewed = c.document.view_is in
    let same : c.as_slice.result.now ≡ document = cc in
    let laws = (c.want_of_memory_before_a_document.ensures old).laws in
    let sink = c.refuse-in-Err-BadDocument.new.sink in
    let why = c.in-Err-BadDocument.is ∙ ap Err c.in-Err-BadDocument.field-0-is in
    told_refused old left reads before laws (told_at sink.place (g.W.ByteSink.contents sink.inner)) (g.W.ByteSink.faults sink.inner)
    (lines_at sink.place (g.W.ByteSink.contents sink.inner)) causes.BadDocument c.refuse-in-Err-BadDocument.result
    (subst (λ standing. DocumentIs old.left left standing) (ap standing_by (ap meaning_of (sym same) ∙ c.lines_of.ensures.bad_document why)) read)
    (c.read_document.ensures.none_failed (λ fails. cc)) c.refuse-in-Err-BadDocument.ensures

pub returns-in-Ok-Whole-clause-told : goal.returns-in-Ok-Whole-clause-told
returns-in-Ok-Whole-clause-told g c =
    let boxes = map (λ b. (goal.Outlet-dyn g (b.vtable, b.value)).account b.value) c.args.outlets.now.items in
    let old = told_world (g.S.ByteSource.left c.args.source.now) (g.S.ByteSource.faults c.args.source.now) g.W.ByteSink.contents g.W.ByteSink.faults
    c.args.sink.now boxes in
    let left = g.S.ByteSource.left c.read_document.new.source in
    let reads = g.S.ByteSource.faults c.read_document.new.source in
    let before = lines_at c.args.sink.now.place (g.W.ByteSink.contents c.args.sink.now.inner) in
    let document = c.in-Ok-Whole.document in
    let is = c.in-Ok-Whole.is ∙ ap Ok c.in-Ok-Whole.field-0-is in
    let read = whole_is old.left left document (read_at old.left left c.read_document.result (Ok (Whole document)) is c.read_document.ensures.reads) in
    let laws = (c.want_of_memory_before_a_document.ensures old).laws in
    told_wanting old left reads before laws (prefix_read old.left left (standing_by (meaning_of document)) read)
    (c.read_document.ensures.none_failed (λ fails. cc))

pub returns-in-Ok-TooLong-clause-told : goal.returns-in-Ok-TooLong-clause-told
returns-in-Ok-TooLong-clause-told g c =
    let boxes = map (λ b. (goal.Outlet-dyn g (b.vtable, b.value)).account b.value) c.args.outlets.now.items in
    let old = told_world (g.S.ByteSource.left c.args.source.now) (g.S.ByteSource.faults c.args.source.now) g.W.ByteSink.contents g.W.ByteSink.faults
    c.args.sink.now boxes in
    let left = g.S.ByteSource.left c.read_document.new.source in
    let reads = g.S.ByteSource.faults c.read_document.new.source in
    let before = lines_at c.args.sink.now.place (g.W.ByteSink.contents c.args.sink.now.inner) in
    let laws = (c.want_of_memory_before_a_document.ensures old).laws in
    let is = c.in-Ok-TooLong.is ∙ ap Ok c.in-Ok-TooLong.field-0-is in
    let sink = c.refuse-in-Ok-TooLong.new.sink in
    told_refused old left reads before laws (told_at sink.place (g.W.ByteSink.contents sink.inner)) (g.W.ByteSink.faults sink.inner)
    (lines_at sink.place (g.W.ByteSink.contents sink.inner)) causes.TooLong c.refuse-in-Ok-TooLong.result
    (read_at old.left left c.read_document.result (Ok TooLong) is c.read_document.ensures.reads)
    (c.read_document.ensures.none_failed (λ fails. cc)) c.refuse-in-Ok-TooLong.ensures

pub returns-in-Err-Failed-clause-told : goal.returns-in-Err-Failed-clause-told
returns-in-Err-Failed-clause-told g c =
    let boxes = map (λ b. (goal.Outlet-dyn g (b.vtable, b.value)).account b.value) c.args.outlets.now.items in
    let old = told_world (g.S.ByteSource.left c.args.source.now) (g.S.ByteSource.faults c.args.source.now) g.W.ByteSink.contents g.W.ByteSink.faults
    c.args.sink.now boxes in
    let left = g.S.ByteSource.left c.read_document.new.source in
    let reads = g.S.ByteSource.faults c.read_document.new.source in
    let before = lines_at c.args.sink.now.place (g.W.ByteSink.contents c.args.sink.now.inner) in
    let laws = (c.want_of_memory_before_a_document.ensures old).laws in
    let is = c.in-Err-Failed.is ∙ ap Err c.in-Err-Failed.field-0-is in
    told_unread old left reads before laws (read_at old.left left c.read_document.result (Err Failed) is c.read_document.ensures.reads)
    (c.read_document.ensures.failed is)

pub returns-clause-told : goal.returns-clause-told
returns-clause-told g c =
    let boxes = map (λ b. (goal.Outlet-dyn g (b.vtable, b.value)).account b.value) c.args.outlets.now.items in
    let old = told_world (g.S.ByteSource.left c.args.source.now) (g.S.ByteSource.faults c.args.source.now) g.W.ByteSink.contents g.W.ByteSink.faults
    c.args.sink.now boxes in
    let left = g.S.ByteSource.left c.read_document.new.source in
    let reads = g.S.ByteSource.faults c.read_document.new.source in
    let before = lines_at c.args.sink.now.place (g.W.ByteSink.contents c.args.sink.now.inner) in
    let laws = (c.want_of_memory_before_a_document.ensures old).laws in
    let is = c.in-Err-Memory.is ∙ ap Err c.in-Err-Memory.field-0-is in
    told_wanting old left reads before laws (read_at old.left left c.read_document.result (Err Memory) is c.read_document.ensures.reads)
    (c.read_document.ensures.none_failed (λ fails. cc))
