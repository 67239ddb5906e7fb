-- The lines of operations (Broadcast Audio Scan Service 1.0, section 3.1.1), which are a part of this project's own language.
use Rattle.std.specs.Prelude.{ℕ, ◌≡◌, ◌⊎◌, List, Ok, Some}
use Rattle.bass_operations.specs.declared.operation.Operation.{Operation}
use Rattle.bass_operations.specs.declared.operation.Operation.TheVariants as operations
use Rattle.scenario_text.specs.declared.step.Step.{Step}
use Rattle.scenario_text.specs.declared.step.Step.TheVariants.{Add, Modify, Remove, Code, Event}
use Rattle.scenario_text.specs.Steps.{read_of}
use Rattle.scenario_lines.specs.Taking.{LineTakes}

-- the step of a line by which an operation is written to a sink; no line brings those of a scan
abbrev pub operation_step : ℕ → Operation → Step
operation_step sink (operations.Add op) = Add sink op
operation_step sink (operations.Modify op) = Modify sink op
operation_step sink (operations.Remove source_id) = Remove sink source_id
operation_step sink (operations.Code source_id code) = Code sink source_id code
operation_step sink other = Event

-- the line says this operation, in each version
abbrev pub SaysOperation : List ℕ → ℕ → Operation → Type 0
SaysOperation line sink op = (version : ℕ) → read_of version line ≡ Ok (Some (operation_step sink op))

-- the line spells octets for its step to keep, or says an operation
abbrev pub TakesOrSays : List ℕ → Type 0
TakesOrSays line = ((version : ℕ) → LineTakes version line) ⊎ ((sink : ℕ) × (op : Operation) × SaysOperation line sink op)
