use Rattle.std.proofs.Common.{◌≡◌, ◌∙◌, refl, sym, subst, map, string_bytes}
use Rattle.replay_generated.specs.Generated.{lines_made}
use Rattle.replay_steps.specs.Unassigned.{UnassignedBy}
use Rattle.replay_words.specs.Words.{mode_of}
use Rattle.replay_lines.specs.World.{world_of}
use Rattle.replay_command.specs.Migrated.{Migrated}
use Rattle.replay_command.proofs.Migrating.{migrated_of}
use Rattle.replay_command.proofs.Promises.{in_replay, in_migration, in_document, in_generation, in_memory, unread_in_toml}
use Rattle.replay_command.proofs.replay.replay.Goals as goal

pub returns-in-Ok-Replay-clause-promised : goal.returns-in-Ok-Replay-clause-promised
returns-in-Ok-Replay-clause-promised g c =
    let boxes = map (λ b. (goal.Outlet-dyn g (b.vtable, b.value)).account b.value) c.args.outlets.now.items in
    let after = map (λ b. (goal.Outlet-dyn g (b.vtable, b.value)).account b.value) c.run_text.new.outlets.items in
    let old = world_of g.S.ByteSource.left g.S.ByteSource.faults g.K.ByteSink.contents g.K.ByteSink.faults c.args.source.now c.args.sink.now boxes in
    let new = world_of g.S.ByteSource.left g.S.ByteSource.faults g.K.ByteSink.contents g.K.ByteSink.faults c.run_text.new.source c.run_text.new.sink after in
    in_replay (mode_of (map string_bytes c.args.words.now)) old new c.from.result (sym c.in-Ok-Replay.ensures.meaning ∙ c.in-Ok-Replay.field-0-is)
    (record { ending = c.run_text.result; told = c.from.ensures; run = c.run_text.ensures.promised })

pub returns-in-Err-clause-promised : goal.returns-in-Err-clause-promised
returns-in-Err-clause-promised g c =
    let boxes = map (λ b. (goal.Outlet-dyn g (b.vtable, b.value)).account b.value) c.args.outlets.now.items in
    let old = world_of g.S.ByteSource.left g.S.ByteSource.faults g.K.ByteSink.contents g.K.ByteSink.faults c.args.source.now c.args.sink.now boxes in
    in_memory (mode_of (map string_bytes c.args.words.now)) old (c.want_of_memory_at_once.ensures old) (c.want_of_memory_before_a_document.ensures old)

pub returns-in-Ok-Migrate-clause-promised : goal.returns-in-Ok-Migrate-clause-promised
returns-in-Ok-Migrate-clause-promised g c =
    let boxes = map (λ b. (goal.Outlet-dyn g (b.vtable, b.value)).account b.value) c.args.outlets.now.items in
    let old = world_of g.S.ByteSource.left g.S.ByteSource.faults g.K.ByteSink.contents g.K.ByteSink.faults c.args.source.now c.args.sink.now boxes in
    let new = world_of g.S.ByteSource.left g.S.ByteSource.faults g.K.ByteSink.contents g.K.ByteSink.faults c.run_migration.new.source c.run_migration.new.sink boxes in
    let did = c.run_migration.ensures in
    in_migration (mode_of (map string_bytes c.args.words.now)) old new c.from-in-Ok-Migrate.result (sym c.in-Ok-Migrate.ensures.meaning ∙ c.in-Ok-Migrate.field-0-is)
    (subst (λ s. Migrated old new s) (sym c.from-in-Ok-Migrate.ensures)
    (migrated_of c.run_migration.result old new did.ended did.read_fault did.no_read_fault did.write_fault did.no_write_fault refl))

pub returns-in-Ok-Toml-clause-promised : goal.returns-in-Ok-Toml-clause-promised
returns-in-Ok-Toml-clause-promised g c =
    let boxes = map (λ b. (goal.Outlet-dyn g (b.vtable, b.value)).account b.value) c.args.outlets.now.items in
    let after = map (λ b. (goal.Outlet-dyn g (b.vtable, b.value)).account b.value) c.run_toml.new.outlets.items in
    let old = world_of g.S.ByteSource.left g.S.ByteSource.faults g.K.ByteSink.contents g.K.ByteSink.faults c.args.source.now c.args.sink.now boxes in
    let new = world_of g.S.ByteSource.left g.S.ByteSource.faults g.K.ByteSink.contents g.K.ByteSink.faults c.run_toml.new.source c.run_toml.new.sink after in
    in_document (mode_of (map string_bytes c.args.words.now)) old new c.of_document.result (sym c.in-Ok-Toml.ensures.meaning ∙ c.in-Ok-Toml.field-0-is)
    (record { ended = c.run_toml.result; told = c.of_document.ensures; run = c.run_toml.ensures.promised })

pub returns-in-Ok-Generate-clause-promised : goal.returns-in-Ok-Generate-clause-promised
returns-in-Ok-Generate-clause-promised g c =
    let boxes = map (λ b. (goal.Outlet-dyn g (b.vtable, b.value)).account b.value) c.args.outlets.now.items in
    let after = map (λ b. (goal.Outlet-dyn g (b.vtable, b.value)).account b.value) c.run_generated.new.outlets.items in
    let old = world_of g.S.ByteSource.left g.S.ByteSource.faults g.K.ByteSink.contents g.K.ByteSink.faults c.args.source.now c.args.sink.now boxes in
    let new = world_of g.S.ByteSource.left g.S.ByteSource.faults g.K.ByteSink.contents g.K.ByteSink.faults c.args.source.now c.run_generated.new.sink after in
    in_generation (mode_of (map string_bytes c.args.words.now)) c.in-Ok-Generate.seed c.in-Ok-Generate.events old new c.from-in-Ok-Generate.result
    (sym c.in-Ok-Generate.ensures.meaning ∙ c.in-Ok-Generate.field-0-is)
    (record { outcome = c.run_generated.result; told = c.from-in-Ok-Generate.ensures; run = c.run_generated.ensures.generated; left = refl; reads = refl })

pub returns-in-Ok-Replay-clause-unassigned : goal.returns-in-Ok-Replay-clause-unassigned
returns-in-Ok-Replay-clause-unassigned g c text airs replays is meets = c.run_text.ensures.unassigned text airs is meets

pub returns-in-Ok-Replay-clause-unassigned_generated : goal.returns-in-Ok-Replay-clause-unassigned_generated
returns-in-Ok-Replay-clause-unassigned_generated g c seed events airs generates meets =
    absurd (let same = sym c.in-Ok-Replay.field-0-is ∙ c.in-Ok-Replay.ensures.meaning ∙ generates in cc)

pub returns-in-Ok-Generate-clause-unassigned : goal.returns-in-Ok-Generate-clause-unassigned
returns-in-Ok-Generate-clause-unassigned g c text airs replays is meets =
    absurd (let same = sym c.in-Ok-Generate.field-0-is ∙ c.in-Ok-Generate.ensures.meaning ∙ replays in cc)

pub returns-in-Ok-Generate-clause-unassigned_generated : goal.returns-in-Ok-Generate-clause-unassigned_generated
returns-in-Ok-Generate-clause-unassigned_generated g c seed events airs generates meets =
    let boxes = (map (λ b. (goal.Outlet-dyn g (b.vtable, b.value)).account b.value) c.args.outlets.now.items) in
    let same = sym c.in-Ok-Generate.field-0-is ∙ c.in-Ok-Generate.ensures.meaning ∙ generates in
    let first : c.in-Ok-Generate.seed ≡ seed = cc in
    let second : c.in-Ok-Generate.events ≡ events = cc in
    subst (λ e. UnassignedBy airs boxes (lines_made seed e) c.args.outlets.now.items c.run_generated.new.outlets.items) second
    (subst (λ s. UnassignedBy airs boxes (lines_made s c.in-Ok-Generate.events) c.args.outlets.now.items c.run_generated.new.outlets.items) first
    (c.run_generated.ensures.unassigned airs meets))

pub returns-in-Ok-Replay-clause-unassigned_document : goal.returns-in-Ok-Replay-clause-unassigned_document
returns-in-Ok-Replay-clause-unassigned_document g c document airs documents is meets =
    absurd (let same = sym c.in-Ok-Replay.field-0-is ∙ c.in-Ok-Replay.ensures.meaning ∙ documents in cc)

pub returns-in-Ok-Generate-clause-unassigned_document : goal.returns-in-Ok-Generate-clause-unassigned_document
returns-in-Ok-Generate-clause-unassigned_document g c document airs documents is meets =
    absurd (let same = sym c.in-Ok-Generate.field-0-is ∙ c.in-Ok-Generate.ensures.meaning ∙ documents in cc)

pub returns-in-Ok-Toml-clause-unassigned : goal.returns-in-Ok-Toml-clause-unassigned
returns-in-Ok-Toml-clause-unassigned g c text airs replays is meets =
    absurd (let same = sym c.in-Ok-Toml.field-0-is ∙ c.in-Ok-Toml.ensures.meaning ∙ replays in cc)

pub returns-in-Ok-Toml-clause-unassigned_generated : goal.returns-in-Ok-Toml-clause-unassigned_generated
returns-in-Ok-Toml-clause-unassigned_generated g c seed events airs generates meets =
    absurd (let same = sym c.in-Ok-Toml.field-0-is ∙ c.in-Ok-Toml.ensures.meaning ∙ generates in cc)

pub returns-in-Ok-Toml-clause-unassigned_document : goal.returns-in-Ok-Toml-clause-unassigned_document
returns-in-Ok-Toml-clause-unassigned_document g c document airs documents is meets = c.run_toml.ensures.unassigned document airs is meets

pub returns-in-Ok-Replay-clause-uncalled_document : goal.returns-in-Ok-Replay-clause-uncalled_document
returns-in-Ok-Replay-clause-uncalled_document g c documents is =
    absurd (let same = sym c.in-Ok-Replay.field-0-is ∙ c.in-Ok-Replay.ensures.meaning ∙ documents in cc)

pub returns-in-Ok-Generate-clause-uncalled_document : goal.returns-in-Ok-Generate-clause-uncalled_document
returns-in-Ok-Generate-clause-uncalled_document g c documents is =
    absurd (let same = sym c.in-Ok-Generate.field-0-is ∙ c.in-Ok-Generate.ensures.meaning ∙ documents in cc)

pub returns-in-Ok-Toml-clause-uncalled_document : goal.returns-in-Ok-Toml-clause-uncalled_document
returns-in-Ok-Toml-clause-uncalled_document g c documents is =
    c.run_toml.ensures.uncalled (unread_in_toml c.run_toml.result (sym c.of_document.ensures ∙ is))
