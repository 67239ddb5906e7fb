use Rattle.explained_rows.proofs.Prelude.{◌≡◌, ◌∙◌, ◌-◌, List, ℕ, refl, sym, subst, drop, length, take, arith, err_from_is_err_and, length-drop, take_all, take_rest, Appends, Keeps, lines_at, lines_told, told_at}
use Rattle.explained_rows.proofs.Telling.{keeps_then, lines_cut, lines_on, passed_on, silent, written_more}
use Rattle.explained_rows.proofs.rows.ExplainedRows.pass.Goals as goal

pub loop-done-preserved : goal.loop-done-preserved
loop-done-preserved g c =
    let initial = c.self.inside.place in
    let place = c.loop-done.self-inside.place in
    let now = c.after-self-inside.result in
    let octets = c.args.octets.now in
    let done = c.loop-done.done in
    let count = c.in_ok-count.count in
    let rest = take (length octets - done) (drop done octets) in
    let first = g.W.ByteSink.contents c.self.inside.inner in
    let kept = g.W.ByteSink.contents c.loop-done.self-inside.inner in
    let kept' = g.W.ByteSink.contents c.write.new.self in
    let is : rest ≡ drop done octets = rw take_rest refl in
    let on = passed_on initial place now octets rest done count is c.loop-done.invariant.place c.loop-done.invariant.silent c.after-self-inside.ensures in
    record {
      within = omega (arith, c.in_ok-count.ensures.bound, length-drop done octets, c.loop-done-test.true);
      place = on.at;
      silent = on.left;
      kept = keeps_then (told_at initial first) (told_at place kept) (told_at now kept') c.loop-done.invariant.kept
          (subst (λ p. Keeps (told_at place kept) (told_at p kept')) (sym c.after-self-inside.ensures)
          (silent place kept kept' (take count rest) on.prefix c.in_ok-count.ensures.bytes));
      lines = lines_on initial place octets done c.loop-done.invariant.place first kept c.loop-done.invariant.lines now kept' rest count is
          c.after-self-inside.ensures c.in_ok-count.ensures.bytes;
      whole = written_more first kept kept' done count octets c.loop-done.invariant.whole
          (subst (λ r. Appends kept kept' (take count r)) is c.in_ok-count.ensures.bytes);
      none_failed = c.in_ok-count.ensures.ok ∙ c.loop-done.invariant.none_failed;
    }

pub returns-in_err-count-clause-lines : goal.returns-in_err-count-clause-lines
returns-in_err-count-clause-lines g c =
    let p = err_from_is_err_and c.from_residual.result c.from_residual.ensures.1 in
    rw p.1 (rw (← c.self.view_is)
    (lines_cut c.self.inside.place c.loop-done.self-inside.place c.args.octets.now c.loop-done.done c.loop-done.invariant.place
    (g.W.ByteSink.contents c.self.inside.inner) (g.W.ByteSink.contents c.loop-done.self-inside.inner) c.loop-done.invariant.lines
    (g.W.ByteSink.contents c.write.new.self) c.in_err-count.ensures.bytes))

pub returns-clause-lines : goal.returns-clause-lines
returns-clause-lines g c =
    let whole : take c.loop-done.done c.args.octets.now ≡ c.args.octets.now = take_all c.loop-done.done c.args.octets.now (omega (arith, c.loop-done-test.false)) in
    let first = g.W.ByteSink.contents c.self.inside.inner in
    let last = g.W.ByteSink.contents c.loop-done.self-inside.inner in
    let P : List ℕ → Type 0 =
    λ l. Appends (lines_at c.self.inside.place first) (lines_at c.loop-done.self-inside.place last) (lines_told c.self.inside.place l) in
    rw (← c.self.view_is) (subst P whole c.loop-done.invariant.lines)

pub returns-clause-whole : goal.returns-clause-whole
returns-clause-whole g c =
    rw (← c.self.view_is) (subst (Appends (g.W.ByteSink.contents c.self.inside.inner) (g.W.ByteSink.contents c.loop-done.self-inside.inner))
    (take_all c.loop-done.done c.args.octets.now (omega (arith, c.loop-done-test.false))) c.loop-done.invariant.whole)
