use Rattle.replay_steps.proofs.Prelude.{refl, ap, arith, source_at, histories_of, sink_line_step}
use Rattle.scenario_sink.specs.declared.sink_call.SinkCall.TheVariants.{Serve, Tell, Drain, Lose}
use Rattle.replay_steps.proofs.SinkCalling.{call_meets}
use Rattle.replay_steps.proofs.StepLaws.{meets_as}
use Rattle.replay_steps.proofs.machine.Machine.say_of_sink.Goals as goal

pub returns-in-Announce : goal.returns-in-Announce
returns-in-Announce c starts accounts version steps stands e = grind (arith, c.announce.ensures starts version steps stands e)

pub returns-in-Serve : goal.returns-in-Serve
returns-in-Serve c starts accounts version steps stands e =
    meets_as starts steps _ _ _ _ _ _ _ _ (ap sink_line_step c.in-Serve.is)
    (call_meets starts accounts version c.in-Serve.sink steps Serve _ _ _ _ _ stands e refl refl refl
    (c.call.ensures (histories_of steps) (source_at steps) stands.sinks))

pub returns-in-Tell : goal.returns-in-Tell
returns-in-Tell c starts accounts version steps stands e =
    meets_as starts steps _ _ _ _ _ _ _ _ (ap sink_line_step c.in-Tell.is)
    (call_meets starts accounts version c.in-Tell.sink steps Tell _ _ _ _ _ stands e refl refl refl
    (c.call-in-Tell.ensures (histories_of steps) (source_at steps) stands.sinks))

pub returns-in-Drain : goal.returns-in-Drain
returns-in-Drain c starts accounts version steps stands e =
    meets_as starts steps _ _ _ _ _ _ _ _ (ap sink_line_step c.in-Drain.is)
    (call_meets starts accounts version c.in-Drain.sink steps Drain _ _ _ _ _ stands e refl refl refl
    (c.call-in-Drain.ensures (histories_of steps) (source_at steps) stands.sinks))

pub returns-in-Lose : goal.returns-in-Lose
returns-in-Lose c starts accounts version steps stands e =
    meets_as starts steps _ _ _ _ _ _ _ _ (ap sink_line_step c.in-Lose.is)
    (call_meets starts accounts version c.in-Lose.sink steps Lose _ _ _ _ _ stands e refl refl refl
    (c.call-in-Lose.ensures (histories_of steps) (source_at steps) stands.sinks))
