-- What is promised of a generated run before which memory ran out.
use Rattle.std.proofs.Common.{ℕ, [], refl}
use Rattle.transcript_text.specs.Summary.{counts_of}
use Rattle.scenario_history.specs.Transcript.{transcript_of, units_of}
use Rattle.scenario_history.proofs.Citable.{took_all}
use Rattle.replay_generated.specs.Generated.{GeneratedRun, lines_made}
use Rattle.replay_generated.proofs.Citable.{none_written}
use Rattle.replay_generated.specs.declared.outcome.Outcome.TheVariants as outcomes
use Rattle.replay_command.specs.declared.status.Status.TheVariants as statuses
use Rattle.replay_command.specs.Generated.{Generated}
use Rattle.replay_lines.specs.World.{World}

none_run : (seed events : ℕ) (old : World) → GeneratedRun seed events outcomes.Memory old.boxes old.boxes old.taken old.taken old.writes old.writes
none_run seed events old = record {
  done = λ is. absurd cc;
  refused = λ line reason is. absurd cc;
  no_outlet = λ line reason is. absurd cc;
  outlet_fault = λ is. absurd cc;
  write_fault = λ is. absurd cc;
  memory = λ is airs meets. record {
    written = none_written old.taken events (counts_of (transcript_of airs old.boxes (lines_made seed events)));
    done = [];
    rest = units_of airs old.boxes (lines_made seed events);
    split = refl;
    boxes = took_all old.boxes [];
  };
  no_write_fault = λ other. refl;
  no_outlet_fault = λ other box. refl;
  one_outlet_fault = record { place = 0; others = λ box apart. refl };
  complete = λ airs meets two room counts. tt;
}

pub generated_none : (seed events : ℕ) (old : World) → Generated seed events old old statuses.Memory
generated_none seed events old = record { outcome = outcomes.Memory; told = refl; run = none_run seed events old; left = refl; reads = refl }
