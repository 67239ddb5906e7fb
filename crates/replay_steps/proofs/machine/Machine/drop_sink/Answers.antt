use Rattle.replay_steps.proofs.Prelude.{arith, refl, histories_of, relay_histories}
use Rattle.replay_steps.proofs.Ending.{drop_ends}
use Rattle.replay_steps.proofs.RelayLaws.{dropped_relays}
use Rattle.replay_steps.proofs.machine.Machine.drop_sink.Goals as goal

pub returns-in-Err : goal.returns-in-Err
returns-in-Err g c starts version steps stands e boxes =
    grind (arith, c.in-Err.ensures.answer (histories_of steps) stands.sinks, c.in-Err.ensures.text (histories_of steps) stands.sinks)

pub returns : goal.returns
returns g c starts version steps stands e boxes =
    drop_ends starts _ version c.args.sink steps c.args.self.now _ c.args.text.now c.end.new.text stands e boxes refl refl
    (dropped_relays c.args.sink steps _ (c.end-2.ensures (relay_histories steps) stands.relays))
    (c.in-Ok.ensures.answer (histories_of steps) stands.sinks) (c.in-Ok.ensures.text (histories_of steps) stands.sinks)
