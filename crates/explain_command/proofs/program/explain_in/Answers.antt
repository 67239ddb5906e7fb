use Rattle.explain_command.proofs.Prelude.{map, refl, sym, subst, lines_at, told_world, ToldIn}
use Rattle.explain_command.specs.declared.program.Form.{Form}
use Rattle.explain_command.specs.declared.status.Status.TheVariants.{Ended}
use Rattle.explain_command.proofs.program.explain_in.Goals as goal

pub returns-in-Lines : goal.returns-in-Lines
returns-in-Lines g c =
    let boxes = map (λ b. (goal.Outlet-dyn g (b.vtable, b.value)).account b.value) c.args.outlets.now.items in
    let behind = map (λ b. (goal.Outlet-dyn g (b.vtable, b.value)).account b.value) c.explain.new.outlets.items in
    let P : Form → Type 0 = λ form. ToldIn form
    (told_world (g.S.ByteSource.left c.args.source.now) (g.S.ByteSource.faults c.args.source.now) g.W.ByteSink.contents g.W.ByteSink.faults
    c.args.sink.now boxes)
    (told_world (g.S.ByteSource.left c.explain.new.source) (g.S.ByteSource.faults c.explain.new.source) g.W.ByteSink.contents g.W.ByteSink.faults
    c.explain.new.sink behind) (lines_at c.args.sink.now.place (g.W.ByteSink.contents c.args.sink.now.inner))
    (lines_at c.explain.new.sink.place (g.W.ByteSink.contents c.explain.new.sink.inner)) (Ended c.explain.result) in
    subst P (sym c.in-Lines.is) (record { ending = c.explain.result; is = refl; told = c.explain.ensures.told })

pub returns-in-Toml : goal.returns-in-Toml
returns-in-Toml g c =
    let boxes = map (λ b. (goal.Outlet-dyn g (b.vtable, b.value)).account b.value) c.args.outlets.now.items in
    let behind = map (λ b. (goal.Outlet-dyn g (b.vtable, b.value)).account b.value) c.explain_toml.new.outlets.items in
    let P : Form → Type 0 = λ form. ToldIn form
    (told_world (g.S.ByteSource.left c.args.source.now) (g.S.ByteSource.faults c.args.source.now) g.W.ByteSink.contents g.W.ByteSink.faults
    c.args.sink.now boxes)
    (told_world (g.S.ByteSource.left c.explain_toml.new.source) (g.S.ByteSource.faults c.explain_toml.new.source) g.W.ByteSink.contents g.W.ByteSink.faults
    c.explain_toml.new.sink behind) (lines_at c.args.sink.now.place (g.W.ByteSink.contents c.args.sink.now.inner))
    (lines_at c.explain_toml.new.sink.place (g.W.ByteSink.contents c.explain_toml.new.sink.inner)) c.of_document.result in
    subst P (sym c.in-Toml.is) (record { ended = c.explain_toml.result; is = c.of_document.ensures; told = c.explain_toml.ensures.told })
