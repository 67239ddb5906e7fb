use Rattle.scenario_lines.proofs.Prelude.{◌≡◌, ◌∙◌, ◌++◌, sym, ap, List, ℕ, left_at, Place}
use Rattle.scenario_lines.proofs.NextLines.{head_next, some_left}
use Rattle.scenario_lines.proofs.made_lines.Lines.next_line.Goals as goal

pub returns-in_ok-append-in-Head-clause-next : goal.returns-in_ok-append-in-Head-clause-next
returns-in_ok-append-in-Head-clause-next c = λ e.
    let at = sym c.self.view_is ∙ ap (λ (p : Place). left_at p c.self.inside.state c.self.inside.event c.self.inside.left) c.in-Head.is in
    let line : c.append.new.self ≡ c.head_line.result.now = c.in_ok-append-in-Head.ensures.ok ∙ ap (λ (t : List ℕ). t ++ c.as_bytes.result.now) c.clear.ensures ∙ c.as_bytes.ensures.value in
    let next = head_next c.in-Head.place c.self.inside.state c.self.inside.event c.self.inside.left c.head_line.result.now c.head_line.ensures in
    rw (line, c.after_head-self-inside.ensures) (at ∙ next)

pub returns-in_ok-self-inside-in-Unit-clause-next : goal.returns-in_ok-self-inside-in-Unit-clause-next
returns-in_ok-self-inside-in-Unit-clause-next c = λ e.
    let at = sym c.self.view_is ∙ ap (λ (p : Place). left_at p c.self.inside.state c.self.inside.event c.self.inside.left) c.in-Unit.is in
    at ∙ c.in_ok-self-inside-in-Unit.ensures.next c.self.inside.state

pub returns-in_err-self-inside-in-Unit-clause-memory : goal.returns-in_err-self-inside-in-Unit-clause-memory
returns-in_err-self-inside-in-Unit-clause-memory c = λ err none.
    let at = sym c.self.view_is ∙ ap (λ (p : Place). left_at p c.self.inside.state c.self.inside.event c.self.inside.left) c.in-Unit.is in
    some_left c.self.inside.state c.self.inside.event c.self.inside.left (sym at ∙ none)
