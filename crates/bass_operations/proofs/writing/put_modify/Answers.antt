use Rattle.bass_operations.proofs.Prelude.{◌∙◌, append_assoc, arith, on_ok_weaker}
use Rattle.bass_operations.proofs.writing.put_modify.Goals as goal

pub returns-clause-fields : goal.returns-clause-fields
returns-clause-fields c = on_ok_weaker c.put_wishes.result (λ e. e ∙ grind (arith, append_assoc)) c.put_wishes.ensures.fields
