-- A fact of a result that follows from another.
use Rattle.scenario_sink.proofs.Prelude.{Result, OnOk, arith}

pub on_ok : {T E P Q : Type 0} (result : Result T E) → (P → Q) → OnOk result P → OnOk result Q
on_ok result f p = grind arith
