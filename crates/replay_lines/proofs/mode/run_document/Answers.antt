use Rattle.replay_lines.proofs.Prelude.{map, meaning_of, refused_for, stands_for, standing_by, lines_over, arith}
use Rattle.replay_lines.proofs.DocumentPromises.{runs_as, runs_text, wanting_at_once}
use Rattle.replay_lines.proofs.mode.run_document.Goals as goal

pub returns-in-Ok-clause-runs : goal.returns-in-Ok-clause-runs
returns-in-Ok-clause-runs g c = grind (arith, map, runs_as, standing_by, meaning_of, stands_for, runs_text)

pub returns-in-Ok-clause-unassigned : goal.returns-in-Ok-clause-unassigned
returns-in-Ok-clause-unassigned g c airs meets = grind (arith, map, meaning_of, standing_by, lines_over)

pub returns-in-Err-BadToml-clause-runs : goal.returns-in-Err-BadToml-clause-runs
returns-in-Err-BadToml-clause-runs g c = grind (arith, map, runs_as, standing_by, meaning_of, refused_for)

pub returns-in-Err-BadDocument-clause-runs : goal.returns-in-Err-BadDocument-clause-runs
returns-in-Err-BadDocument-clause-runs g c = grind (arith, map, runs_as, standing_by, meaning_of, refused_for)

pub returns-in-Err-Memory-clause-runs : goal.returns-in-Err-Memory-clause-runs
returns-in-Err-Memory-clause-runs g c = grind (arith, map, wanting_at_once, standing_by, meaning_of)
