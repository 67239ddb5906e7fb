use Rattle.scenario_words.proofs.Prelude.{◌^◌}
use Rattle.scenario_words.proofs.NextWords.{dash_fits}
use Rattle.scenario_words.proofs.cursor.Cursor.time.Goals as goal

pub returns-then-dash : goal.returns-then-dash
returns-then-dash c =
    let found = c.dash.ensures.found c.if-dash.true in
    dash_fits (2 ^ 62) c.args.self.now c.dash.new.self found.0 found.1
