-- The lines of a sink that come again and again.
use Rattle.replay_steps.proofs.Prelude.{◌≡◌, ℕ, List, Some, Result, arith, Account, Step, Stop, Machine, Meets, Stands, running, stage_of, source_at, histories_of, named_by, IsSinkLine, call_step}
use Rattle.scenario_sink.specs.declared.sink_call.SinkCall.{SinkCall}
use Rattle.scenario_sinks.specs.SinkLines.{SinkLineMakes}
use Rattle.replay_steps.proofs.SinkLines.{line_meets}

is_line : (call : SinkCall) (sink : ℕ) → IsSinkLine (call_step call sink)
is_line call sink = grind arith

names : (call : SinkCall) (sink : ℕ) → named_by (call_step call sink) ≡ Some sink
names call sink = grind arith

pub call_meets : (starts accounts : List Account) (version sink : ℕ) (steps : List Step) (call : SinkCall) (old new : Machine) (text told : List ℕ) (r : Result (Unit {0}) Stop)
    → Stands steps old → stage_of steps ≡ running version → new.stage ≡ old.stage → new.sources ≡ old.sources → new.relays ≡ old.relays
    → SinkLineMakes (histories_of steps) sink (source_at steps) (call_step call sink) new.sinks text told r
    → Meets starts steps (call_step call sink) new text told accounts accounts r
call_meets starts accounts version sink steps call old new text told r stands e stage sources relays makes =
    line_meets starts accounts version sink steps (call_step call sink) old new text told r stands e (is_line call sink) (names call sink) stage sources relays makes
