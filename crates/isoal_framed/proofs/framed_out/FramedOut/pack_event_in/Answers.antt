use Rattle.isoal_framed.proofs.Prelude.{ℕ, ◌≡◌, ◌++◌, ◌∷◌, List, drop, sym, arith, IfOk-weaker, IsEvent, lay, accepted, Act, ends, done, sent, StandsFor}
use Rattle.isoal_framed.specs.Air.{event_of}
use Rattle.isoal_framed.proofs.Senders.{room_between, lay_stands}
use Rattle.isoal_framed.proofs.framed_out.FramedOut.pack_event_in.Goals as goal

pub returns-clause-laid : goal.returns-clause-laid
returns-clause-laid c info calls air stands =
    IfOk-weaker c.pack_next_in.result
    (λ stale. (own : List Act) × IsEvent c.args.self.now.info (accepted calls) c.args.anchor stands.acts own
    × (event_of (accepted calls) c.args.anchor stands.acts (ends ∷ own) ≡ record { pdus = c.pack_next_in.new.pdus; stale = stale })
    × (c.pack_next_in.new.self ≡ record c.args.self.now { units = drop (done (own ++ stands.acts)) (accepted calls); sent = sent (own ++ stands.acts) }))
    (λ stale. (begun : ℕ) × StandsFor info (lay c.args.anchor ∷ calls)
    (record { event = record { pdus = c.pack_next_in.new.pdus; stale = stale }; begun = begun } ∷ air) c.pack_next_in.new.self)
    (λ stale laid. lay_stands info calls air c.args.self.now c.pack_next_in.new.self c.args.anchor
    (record { pdus = c.pack_next_in.new.pdus; stale = stale }) laid.0 stands laid.1 (sym laid.2) laid.3) (grind (arith, room_between))
