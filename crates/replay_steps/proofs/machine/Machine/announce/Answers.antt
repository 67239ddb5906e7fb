use Rattle.replay_steps.proofs.Prelude.{arith, refl, sym, source_at, histories_of}
use Rattle.replay_steps.proofs.SinkLines.{announce_meets}
use Rattle.replay_steps.proofs.machine.Machine.announce.Goals as goal

pub returns-then-not-is_sending : goal.returns-then-not-is_sending
returns-then-not-is_sending c starts version steps stands e = grind (arith, c.is_sending.ensures steps stands.sources)

pub returns-then-not-lives : goal.returns-then-not-lives
returns-then-not-lives c starts version steps stands e =
    grind (arith, c.is_sending.ensures steps stands.sources, c.lives.ensures (histories_of steps) stands.sinks)

pub returns-in-Err : goal.returns-in-Err
returns-in-Err c starts version steps stands e =
    let sends = c.is_sending.ensures steps stands.sources in
    let lives = c.lives.ensures (histories_of steps) stands.sinks in
    let none = c.in-Err.ensures.announces steps stands.sources in
    grind arith

pub returns : goal.returns
returns c starts version steps stands e =
    let train = c.in-Ok.ensures.announces steps stands.sources in
    announce_meets starts version c.args.sink steps c.in-Ok.train c.args.self.now _ c.args.text.now c.announce-2.new.text c.announce-2.result stands e train refl refl refl
    (c.announce-2.ensures (histories_of steps) (source_at steps) (c.origin-origin.ensures steps stands) (sym train.2) stands.sinks)
