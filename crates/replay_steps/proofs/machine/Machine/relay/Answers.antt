use Rattle.replay_steps.proofs.Prelude.{arith, refl, histories_of, relay_histories}
use Rattle.replay_steps.proofs.RelayLaws.{relay_meets}
use Rattle.replay_steps.proofs.machine.Machine.relay.Goals as goal

pub returns-in_default : goal.returns-in_default
returns-in_default c boxes version steps stands e = grind (arith, c.in_default.ensures steps stands.sources)

pub returns-in_default-taking : goal.returns-in_default-taking
returns-in_default-taking c boxes version steps stands e = grind (arith, c.in-Some.ensures steps stands.sources)

pub returns-then-second-ne1 : goal.returns-then-second-ne1
returns-then-second-ne1 c boxes version steps stands e =
    grind (arith, c.in-Some.ensures steps stands.sources, c.in-Some-taking.ensures steps stands.sources)

pub returns-then-not-lives : goal.returns-then-not-lives
returns-then-not-lives c boxes version steps stands e =
    let first = c.in-Some.ensures steps stands.sources in
    let second = c.in-Some-taking.ensures steps stands.sources in
    let lives = c.lives.ensures (histories_of steps) stands.sinks in
    grind arith

pub returns-then-is_beyond : goal.returns-then-is_beyond
returns-then-is_beyond c boxes version steps stands e =
    let first = c.in-Some.ensures steps stands.sources in
    let second = c.in-Some-taking.ensures steps stands.sources in
    let lives = c.lives.ensures (histories_of steps) stands.sinks in
    grind arith

pub returns-then-is_taken : goal.returns-then-is_taken
returns-then-is_taken c boxes version steps stands e =
    let first = c.in-Some.ensures steps stands.sources in
    let second = c.in-Some-taking.ensures steps stands.sources in
    let lives = c.lives.ensures (histories_of steps) stands.sinks in
    grind (arith, c.is_taken.ensures (relay_histories steps) stands.relays)

pub returns : goal.returns
returns c boxes version steps stands e =
    let first = c.in-Some.ensures steps stands.sources in
    let second = c.in-Some-taking.ensures steps stands.sources in
    let lives = c.lives.ensures (histories_of steps) stands.sinks in
    relay_meets boxes version c.args.sink c.args.bis c.args.to steps c.args.self.now _ stands e
    (grind (arith, c.is_taken.ensures (relay_histories steps) stands.relays)) refl refl refl
    (c.relay.ensures (relay_histories steps) stands.relays)
