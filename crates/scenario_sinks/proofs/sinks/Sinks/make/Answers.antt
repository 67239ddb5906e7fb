use Rattle.scenario_sinks.proofs.Prelude.{refl, sym, ◌∙◌, arith}
use Rattle.scenario_sinks.proofs.OneSink.{made, taken, no_box}
use Rattle.scenario_sinks.proofs.sinks.Sinks.make.Goals as goal

pub returns-then-is_some : goal.returns-then-is_some
returns-then-is_some c past stands =
    taken c.args.boxes c.args.sink c.args.sink (record { setup = record { streams = c.args.streams; slots = c.args.slots; horizon = c.args.horizon }; mtu = c.args.mtu })
    past c.args.self.now c.index.result.now stands refl (omega arith)
    (sym c.args.self.now.entries.ok.0 ∙ c.args.self.now.eight) c.index.ensures (sym c.is_some.ensures ∙ c.if-is_some.true)

pub returns-then-self-boxes : goal.returns-then-self-boxes
returns-then-self-boxes c past stands =
    no_box c.args.boxes c.args.sink c.args.sink (record { setup = record { streams = c.args.streams; slots = c.args.slots; horizon = c.args.horizon }; mtu = c.args.mtu })
    past c.args.self.now c.index.result.now stands refl (omega arith)
    (sym c.args.self.now.entries.ok.0 ∙ c.args.self.now.eight) c.index.ensures (sym c.is_some.ensures ∙ c.if-is_some.false) c.if-self-boxes.true

pub returns : goal.returns
returns c past stands =
    made c.args.boxes c.args.sink c.args.sink (record { setup = record { streams = c.args.streams; slots = c.args.slots; horizon = c.args.horizon }; mtu = c.args.mtu })
    past c.args.self.now _ c.index.result.now _ stands refl (omega arith)
    (sym c.args.self.now.entries.ok.0 ∙ c.args.self.now.eight) c.index.ensures (sym c.is_some.ensures ∙ c.if-is_some.false) c.if-self-boxes.false refl c.in-Ok.ensures c.put_entry.ensures.entries refl refl
