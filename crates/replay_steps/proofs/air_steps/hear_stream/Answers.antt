use Rattle.replay_steps.proofs.Prelude.{ℕ, List, sym, subst, arith, Step, chosen_steps, unlost}
use Rattle.replay_steps.proofs.Airing.{none_sent, stream_heard, AreHeard, are_heard}
use Rattle.replay_steps.proofs.air_steps.hear_stream.Goals as goal

pub returns-in_default : goal.returns-in_default
returns-in_default c steps lose streams subevents within on sources loses sinks = absurd (c.in_default.ensures (omega arith, omega (arith, c.requires.stream)))

pub returns-in_default-sent_on : goal.returns-in_default-sent_on
returns-in_default-sent_on c steps lose streams subevents within on sources loses sinks =
    none_sent steps c.args.sink lose c.args.stream c.in-Some.bis c.args.event streams subevents c.args.sinks.now on within c.in-Some.ensures.1
    (c.in_default-sent_on.ensures steps sources on.started) sinks

pub returns : goal.returns
returns c steps lose streams subevents within on sources loses sinks =
    let own : List Step = chosen_steps steps in
    let heard = c.new-heard.result in
    let sent : List (List ℕ) = c.in-Some-sent_on.sent in
    let are = are_heard own lose c.args.stream c.in-Some.bis c.args.event streams subevents sent c.args.lost.now (c.in-Some-sent_on.ensures steps sources on.started).1
    c.in-Some.ensures.1 on.event_is on.streams_are on.subevents_are loses in
    stream_heard steps c.args.sink lose c.args.stream c.chosen.result c.args.event c.in-Some.bis subevents (unlost heard.sent.now heard.lost.now) c.hear_event.new.self
    (subst (λ s. AreHeard own lose c.args.stream (unlost s heard.lost.now)) (sym c.new-heard.ensures.0)
    (subst (λ l. AreHeard own lose c.args.stream (unlost sent l)) (sym c.new-heard.ensures.1) are))
    (c.chosen.ensures.source steps sources) on.event_is c.in-Some.ensures.1 on.subevents_are (c.hear_event.ensures _ sinks)
