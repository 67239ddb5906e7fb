-- The lines that say an operation of the Broadcast Audio Scan Control Point (Broadcast Audio Scan Service 1.0, section 3.1.1). They are
-- the scenario language's own.
use Rattle.std.specs.Prelude.{ℕ, ◌≡◌, List}
use Rattle.bass_operations.specs.declared.operation.Operation.TheVariants as operations
use Rattle.bass_operations.specs.Layout.{encoding}
use Rattle.scenario_text.specs.declared.step.Step.{Step}
use Rattle.scenario_text.specs.declared.step.Step.TheVariants.{Add, Modify, Remove, Code}

-- the line says the operation that has these octets
abbrev pub Operates : Step → List ℕ → Type 0
Operates (Add sink op) octets = octets ≡ encoding (operations.Add op)
Operates (Modify sink op) octets = octets ≡ encoding (operations.Modify op)
Operates (Remove sink source_id) octets = octets ≡ encoding (operations.Remove source_id)
Operates (Code sink source_id code) octets = octets ≡ encoding (operations.Code source_id code)
Operates _ octets = ⊥
