use Rattle.replay_steps.proofs.Prelude.{◌≡◌, ℕ, ◌+◌, ◌*◌, ◌∙◌, sym, subst, arith, add-mul, CountsOn, LosesFrom}
use Rattle.replay_steps.proofs.air_steps.hear_all.Goals as goal

pub streams-init : goal.streams-init
streams-init c = grind arith

pub streams-preserved : goal.streams-preserved
streams-preserved c =
    let nse : ℕ = c.args.grid.subevents in
    let lose : c.streams.losses.lose ≡ c.args.lose = c.streams.invariant.1 in
    let before : ℕ = c.args.event * c.args.grid.streams * nse + c.streams.stream * nse in
    let next : before + nse ≡ c.args.event * c.args.grid.streams * nse + (c.streams.stream + 1) * nse = omega (arith, add-mul c.streams.stream 1 nse) in
    let counts = subst (λ l. CountsOn l before c.streams.losses.before) (sym lose) c.streams.invariant.2 in (
      λ steps on sources sinks. c.hear_stream.ensures steps c.args.lose c.args.grid.streams nse c.streams-test.true on sources
          (subst (λ l. LosesFrom l before nse c.next.new.lost) lose (c.next.ensures.lost before counts)) (c.streams.invariant.0 steps on sources sinks),
      c.next.ensures.lose ∙ lose,
      subst (λ l. CountsOn l (c.args.event * c.args.grid.streams * nse + (c.streams.stream + 1) * nse) c.next.new.self.before) lose
          (subst (λ n. CountsOn c.streams.losses.lose n c.next.new.self.before) next (c.next.ensures.counted before counts)),
    )

pub returns : goal.returns
returns c steps on sources sinks = grind arith
