use Rattle.scenario_toml.proofs.Prelude.{◌≡◌, drop, items_view, after, each}
use Rattle.scenario_toml.proofs.parts.put_each.Given as goal

abbrev pub invariant-values : goal.invariant-values
invariant-values g l =
    after l.initial.text (each (g.P.Part.part l.part) (items_view l.values))
    ≡ after l.text (each (g.P.Part.part l.part) (items_view (drop l.value-index l.values)))
