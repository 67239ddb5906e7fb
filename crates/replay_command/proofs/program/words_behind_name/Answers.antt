use Rattle.std.proofs.Common.{◌∷◌, [], ◌∙◌, ◌++◌, append_assoc, append-nil, ap, sym, subst}
use Rattle.std.proofs.lemmas.List.{nil_from_length}
use Rattle.std.specs.Vec.Iter.{into_iter_items, into_iter_steps}
use Rattle.replay_command.proofs.CommandLines.{behind_first}
use Rattle.replay_command.proofs.program.words_behind_name.Goals as goal

pub words-init : goal.words-init
words-init c =
    ap (λ ws. ws ++ into_iter_items c.into_iter-word-iterator.result) c.new-words.ensures
    ∙ ap into_iter_items c.into_iter-word-iterator.ensures.into_iter_gives
    ∙ behind_first c.next.result (into_iter_items c.args.args) (into_iter_items c.next.new.self) c.next.ensures.items
    (λ is. nil_from_length (into_iter_items c.next.new.self)
    (sym c.next.new.self.rest.ok.0 ∙ (subst (λ r. into_iter_steps c.args.args r c.next.new.self) is c.next.ensures.cases).1))

pub words-preserved : goal.words-preserved
words-preserved c =
    ap (λ ws. ws ++ into_iter_items c.next-in-words.new.self) c.in-Ok.ensures.ok
    ∙ append_assoc c.words.words (c.in-Some.word ∷ []) (into_iter_items c.next-in-words.new.self)
    ∙ ap (λ ws. c.words.words ++ ws) (sym c.in-Some.ensures.steps.0) ∙ c.words.invariant

pub returns : goal.returns
returns c =
    let none = nil_from_length (into_iter_items c.words.word-iterator) (sym c.words.word-iterator.rest.ok.0 ∙ c.in-None.ensures.steps.0) in
    sym (append-nil c.words.words) ∙ ap (λ ws. c.words.words ++ ws) (sym none) ∙ c.words.invariant
