use Rattle.std.proofs.Common.{◌∙◌, length, refl, sym, arith}
use Rattle.std.proofs.lemmas.Bool.{lt-ltb}
use Rattle.assistant_machine.proofs.joined.AssistJoined.hear.Goals as goal

pub returns-then-asks-clause-step : goal.returns-then-asks-clause-step
returns-then-asks-clause-step c = λ other.
    rw (sym c.asks.ensures ∙ c.if-asks.true, ← c.self.view_is, c.from-place.ensures, lt-ltb c.args.slot (length c.self.inside.views.items) (omega arith)) refl
