use Rattle.stream_c.proofs.Prelude.{◌∙◌, subst, FramedStands, PlainStands, StandsBy}
use Rattle.stream_c.proofs.Framings.{framed_held, framed_most, plain_held, plain_most}
use Rattle.stream_c.proofs.receiver.Receiver.held.Goals as goal

pub returns-in-Unframed-clause-held : goal.returns-in-Unframed-clause-held
returns-in-Unframed-clause-held c = λ stay calls is.
    let stands : PlainStands stay calls c.in-Unframed.unframed = subst (StandsBy stay calls) c.in-Unframed.is is.by_framing in
    c.held.ensures.held ∙ plain_held stay calls c.in-Unframed.unframed stands

pub returns-in-Framed-clause-held : goal.returns-in-Framed-clause-held
returns-in-Framed-clause-held c = λ stay calls is.
    let stands : FramedStands stay calls c.in-Framed.framed = subst (StandsBy stay calls) c.in-Framed.is is.by_framing in
    c.held-in-Framed.ensures.held ∙ framed_held stay calls c.in-Framed.framed stands

pub returns-in-Unframed-clause-bound : goal.returns-in-Unframed-clause-bound
returns-in-Unframed-clause-bound c = λ stay calls is.
    let stands : PlainStands stay calls c.in-Unframed.unframed = subst (StandsBy stay calls) c.in-Unframed.is is.by_framing in
    plain_most stay calls c.in-Unframed.unframed c.held.result stands c.held.ensures.bound

pub returns-in-Framed-clause-bound : goal.returns-in-Framed-clause-bound
returns-in-Framed-clause-bound c = λ stay calls is.
    let stands : FramedStands stay calls c.in-Framed.framed = subst (StandsBy stay calls) c.in-Framed.is is.by_framing in
    framed_most stay calls c.in-Framed.framed c.held-in-Framed.result stands c.held-in-Framed.ensures.bound
