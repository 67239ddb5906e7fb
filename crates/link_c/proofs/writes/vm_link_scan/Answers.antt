use Rattle.link_c.proofs.Prelude.{ℕ, [], ◌∷◌, ap, subst, ◌∙◌, LinkStandsIn}
use Rattle.assistant_machine.specs.Calls.{put}
use Rattle.assistant_machine.specs.State.Assistants.{StandsFor}
use Rattle.link_c.proofs.writes.vm_link_scan.Goals as goal
use mir.Val.{bool_byte}

pub returns-in-Ok-clause-started : goal.returns-in-Ok-clause-started
returns-in-Ok-clause-started c = λ slots calls stands is _.
    subst (λ (n : ℕ). StandsFor slots (put (n ∷ []) ∷ calls) c.raw.new.self) (c.from.ensures ∙ ap bool_byte is)
    (c.in-Ok.ensures.stands slots calls (subst (LinkStandsIn slots calls) c.lend.ensures.value stands))

pub returns-in-Ok-clause-stopped : goal.returns-in-Ok-clause-stopped
returns-in-Ok-clause-stopped c = λ slots calls stands is _.
    subst (λ (n : ℕ). StandsFor slots (put (n ∷ []) ∷ calls) c.raw.new.self) (c.from.ensures ∙ ap bool_byte is)
    (c.in-Ok.ensures.stands slots calls (subst (LinkStandsIn slots calls) c.lend.ensures.value stands))
