use Rattle.isoal_framed.proofs.Prelude.{ℕ, ◌≡◌, ◌++◌, ◌∷◌, List, drop, IfOk-weaker, laid_in, IsEvent, lay, accepted, Act, ends, done, sent, StandsFor}
use Rattle.isoal_framed.specs.Air.{event_of}
use Rattle.isoal_framed.proofs.Senders.{room_between, lay_stands}
use Rattle.isoal_framed.proofs.framed_out.FramedOut.pack_event.Goals as goal

pub returns-clause-laid : goal.returns-clause-laid
returns-clause-laid c info calls air stands =
    IfOk-weaker c.pack_next.result (λ event. (own : List Act) × IsEvent c.args.self.now.info (accepted calls) c.args.anchor stands.acts own
    × (laid_in event ≡ event_of (accepted calls) c.args.anchor stands.acts (ends ∷ own))
    × (c.pack_next.new.self ≡ record c.args.self.now { units = drop (done (own ++ stands.acts)) (accepted calls); sent = sent (own ++ stands.acts) }))
    (λ event. (begun : ℕ) × StandsFor info (lay c.args.anchor ∷ calls) (record { event = laid_in event; begun = begun } ∷ air) c.pack_next.new.self)
    (λ event laid. lay_stands info calls air c.args.self.now c.pack_next.new.self c.args.anchor (laid_in event) laid.0 stands laid.1 laid.2 laid.3)
    (c.pack_next.ensures.laid (accepted calls) stands.acts stands.units stands.sent (room_between c.args.self.now.info.max_pdu info calls stands.acts air stands.air_is))
