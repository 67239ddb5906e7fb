use Rattle.scenario_lines.proofs.Prelude.{ℕ, List, ◌++◌, Some, ap, sym, ◌∙◌, arith}
use Rattle.std.proofs.lemmas.Option.{slice_get-get_or}
use Rattle.scenario_lines.proofs.Putting.{item_first, piece_put, value_alone, values_in_turn, values_left, written_values}
use Rattle.scenario_lines.proofs.values.put_values.Goals as goal

pub values-preserved : goal.values-preserved
values-preserved c =
    let value = c.value-item.result in
    let put = c.in_ok-put_value.ensures ∙ ap (λ (l : List ℕ). c.values.line ++ l) (sym (value_alone value)) in
    let found = slice_get-get_or c.args.values.now c.values.value-index value (omega arith) ∙ ap Some (sym c.value-item.is) in
    piece_put (values_left c.args.values.now) _ _ c.values.line _ _ _ (item_first written_values values_in_turn c.args.values.now c.values.value-index value found) c.values.invariant put
