use denote.Param.Object.{read_made}
use Rattle.std.proofs.Common.{◌≡◌, ◌∷◌, ◌++◌, ◌∙◌, ◌+◌, List, [], true, None, ap, map, refl, replicate, string_bytes, subst, arith}
use Rattle.std.proofs.lemmas.List.{map-append, replicate_more}
use Rattle.unit_outlets.specs.Account.{Account, fresh}
use Rattle.replay_lines.specs.World.{world_of}
use Rattle.replay_command.specs.Boxes.{fresh_boxes}
use Rattle.replay_command.specs.ByWords.{PromisedFor}
use Rattle.replay_command.proofs.program.replay_with_tallies.OwnLists.{own-1, at-1-1}
use Rattle.replay_command.proofs.program.replay_with_tallies.Goals as goal

pub boxes-preserved : goal.boxes-preserved
boxes-preserved g c =
    let box = c.into_dyn_box.result in
    let one : (own-1.entry box.vtable).1.account box.value ≡ fresh true 0 None =
    read_made own-1 (own-1.entry at-1-1) at-1-1 refl Account (λ j w. j.1.account w) box.vtable box.value c.in-Ok.tally.value c.into_dyn_box.ensures.1
    ∙ c.in-Ok.ensures.ok ∙ c.new.ensures in
    ap (map (λ z. (own-1.entry z.vtable).1.account z.value)) c.in-Ok-push.ensures.items
    ∙ map-append (λ z. (own-1.entry z.vtable).1.account z.value) c.boxes.outlets.items (box ∷ [])
    ∙ ap (λ l. l ++ (own-1.entry box.vtable).1.account box.value ∷ []) c.boxes.invariant
    ∙ ap (λ a. replicate c.boxes.counter (fresh true 0 None) ++ a ∷ []) one ∙ replicate_more c.boxes.counter (fresh true 0 None)

pub returns-clause-promised : goal.returns-clause-promised
returns-clause-promised g c =
    let count : c.boxes.counter ≡ 8 = omega (arith, c.boxes-test.false, c.boxes.auto.counter-end) in
    let all : map (λ z. (own-1.entry z.vtable).1.account z.value) c.boxes.outlets.items ≡ fresh_boxes =
    c.boxes.invariant ∙ ap (λ n. replicate n (fresh true 0 None)) count in
    let ends = map (λ z. (own-1.entry z.vtable).1.account z.value) c.replay.new.outlets.items in
    let world = world_of g.S.ByteSource.left g.S.ByteSource.faults g.K.ByteSink.contents g.K.ByteSink.faults in
    let P : List Account → Type 0 = λ starts.
    PromisedFor (map string_bytes c.args.words.now) (world c.args.source.now c.args.sink.now starts) (world c.replay.new.source c.replay.new.sink ends)
    c.replay.result in
    (ends, subst P all c.replay.ensures.promised)
