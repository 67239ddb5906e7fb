-- The operations that a line says (Broadcast Audio Scan Service 1.0, section 3.1.1). The lines are the scenario language's own.
use Rattle.bass_operations.specs.declared.operation.Operation.{Operation}
use Rattle.bass_operations.specs.declared.operation.Operation.TheVariants.{ScanStopped, ScanStarted}

-- it names a source: no line says one of a scan
abbrev pub HasLine : Operation → Type 0
HasLine ScanStopped = ⊥
HasLine ScanStarted = ⊥
HasLine _ = Unit {0}
