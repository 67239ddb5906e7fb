use Rattle.scenario_text.proofs.Prelude.{◌+◌, add-one, take_rest}
use Rattle.scenario_text.proofs.MigratedLines.{no_end, first_end}
use Rattle.scenario_text.proofs.migration.split_line.Goals as goal

pub returns-in-None : goal.returns-in-None
returns-in-None c = no_end c.args.text.now c.in-None.ensures

pub returns-in-Some : goal.returns-in-Some
returns-in-Some c =
    let text = c.args.text.now in
    let end = c.in-Some.end in
    let split = first_end text end c.in-Some.ensures.0.high c.in-Some.ensures.0.before c.in-Some.ensures.1 in
    rw (take_rest text (end + 1), add-one) split
