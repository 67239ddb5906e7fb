-- The lines that say an operation.
use Rattle.replay_steps.proofs.Prelude.{◌≡◌, ◌≤◌, ℕ, List, Some, get_or, ap, arith, named_by, IsSinkLine, operation_step}
use Rattle.bass_operations.specs.Layout.{encoding}
use Rattle.bass_operations.specs.declared.operation.Operation.{Operation}
use Rattle.bass_operations.specs.declared.operation.Operation.TheVariants.{ScanStopped, ScanStarted}
use Rattle.replay_steps.specs.Operations.{HasLine}
use Rattle.scenario_sink.specs.Operates.{Operates}

pub is_line : (sink : ℕ) (op : Operation) → HasLine op → IsSinkLine (operation_step sink op)
is_line sink op has = grind arith

pub names : (sink : ℕ) (op : Operation) → HasLine op → named_by (operation_step sink op) ≡ Some sink
names sink op has = grind arith

pub operates : (sink : ℕ) (op : Operation) (octets : List ℕ) → HasLine op → octets ≡ encoding op → Operates (operation_step sink op) octets
operates sink op octets has is = grind arith

pub of_source : (octets : List ℕ) (op : Operation) → octets ≡ encoding op → 2 ≤ get_or octets 0 0 → HasLine op
of_source octets ScanStopped is two = absurd (omega (arith, ap (λ (o : List ℕ). get_or o 0 0) is))
of_source octets ScanStarted is two = absurd (omega (arith, ap (λ (o : List ℕ). get_or o 0 0) is))
of_source octets op is two = grind arith
