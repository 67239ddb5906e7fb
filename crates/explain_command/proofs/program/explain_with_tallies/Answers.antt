use Rattle.explain_command.proofs.Prelude.{◌≡◌, ◌∷◌, ◌++◌, ◌∙◌, List, [], true, None, ap, map, refl, replicate, subst, arith, map-append, replicate_more, Account, fresh, lines_at, told_world, ToldIn}
use denote.Param.Object.{read_made}
use Rattle.explain_command.specs.Boxes.{fresh_boxes}
use Rattle.explain_command.proofs.program.explain_with_tallies.OwnLists.{own-1, at-1-1}
use Rattle.explain_command.proofs.program.explain_with_tallies.Goals as goal

pub boxes-preserved : goal.boxes-preserved
boxes-preserved g c =
    let box = c.into_dyn_box.result in
    let one : (own-1.entry box.vtable).1.account box.value ≡ fresh true 0 None =
    read_made own-1 (own-1.entry at-1-1) at-1-1 refl Account (λ j w. j.1.account w) box.vtable box.value c.in-Ok.tally.value c.into_dyn_box.ensures.1
    ∙ c.in-Ok.ensures.ok ∙ c.new.ensures in
    ap (map (λ z. (own-1.entry z.vtable).1.account z.value)) c.in-Ok-push.ensures.items
    ∙ map-append (λ z. (own-1.entry z.vtable).1.account z.value) c.boxes.outlets.items (box ∷ [])
    ∙ ap (λ l. l ++ (own-1.entry box.vtable).1.account box.value ∷ []) c.boxes.invariant
    ∙ ap (λ a. replicate c.boxes.counter (fresh true 0 None) ++ a ∷ []) one ∙ replicate_more c.boxes.counter (fresh true 0 None)

pub returns : goal.returns
returns g c =
    let count : c.boxes.counter ≡ 8 = omega (arith, c.boxes-test.false, c.boxes.auto.counter-end) in
    let all : map (λ z. (own-1.entry z.vtable).1.account z.value) c.boxes.outlets.items ≡ fresh_boxes =
    c.boxes.invariant ∙ ap (λ n. replicate n (fresh true 0 None)) count in
    let ends = map (λ z. (own-1.entry z.vtable).1.account z.value) c.explain_in.new.outlets.items in
    let P : List Account → Type 0 = λ starts.
    ToldIn c.args.form (told_world (g.S.ByteSource.left c.args.source.now) (g.S.ByteSource.faults c.args.source.now) g.W.ByteSink.contents g.W.ByteSink.faults c.args.sink.now starts)
    (told_world (g.S.ByteSource.left c.explain_in.new.source) (g.S.ByteSource.faults c.explain_in.new.source) g.W.ByteSink.contents g.W.ByteSink.faults c.explain_in.new.sink ends)
    (lines_at c.args.sink.now.place (g.W.ByteSink.contents c.args.sink.now.inner))
    (lines_at c.explain_in.new.sink.place (g.W.ByteSink.contents c.explain_in.new.sink.inner)) c.explain_in.result in
    (ends, subst P all c.explain_in.ensures)
