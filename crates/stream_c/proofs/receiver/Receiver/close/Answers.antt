use Rattle.stream_c.proofs.Prelude.{List, subst, Handed, HandsOver, FramedStands, PlainStands, StandsBy}
use Rattle.stream_c.proofs.Framings.{framed_units, plain_units}
use Rattle.stream_c.proofs.receiver.Receiver.close.Goals as goal

pub returns-in-Unframed-clause-units : goal.returns-in-Unframed-clause-units
returns-in-Unframed-clause-units g c = λ stay calls is.
    let stands : PlainStands stay calls c.in-Unframed.unframed = subst (StandsBy stay calls) c.in-Unframed.is is.by_framing in
    subst (λ (units : List Handed). HandsOver units (g.T.UnitTaker.calls c.args.taker.now) (g.T.UnitTaker.calls c.close.new.taker) c.close.result)
    (plain_units stay calls c.in-Unframed.unframed stands) (c.close.ensures.units calls stands.stands)

pub returns-in-Framed-clause-units : goal.returns-in-Framed-clause-units
returns-in-Framed-clause-units g c = λ stay calls is.
    let stands : FramedStands stay calls c.in-Framed.framed = subst (StandsBy stay calls) c.in-Framed.is is.by_framing in
    subst
    (λ (units : List Handed). HandsOver units (g.T.UnitTaker.calls c.args.taker.now) (g.T.UnitTaker.calls c.close-in-Framed.new.taker) c.close-in-Framed.result)
    (framed_units stay calls c.in-Framed.framed stands) (c.close-in-Framed.ensures.units calls stands.stands)
