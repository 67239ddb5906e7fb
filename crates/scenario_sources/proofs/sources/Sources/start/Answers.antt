use Rattle.scenario_sources.proofs.Prelude.{length, true, refl, ◌∙◌, arith, chosen_of, chosen_steps, stage_same, Start, is_described}
use Rattle.scenario_sources.proofs.Lifting.{answers, chosen_read, is_single, same_read, start_refused, start_twice, stands_as, twice_is}
use Rattle.scenario_sources.proofs.sources.Sources.start.Goals as goal

pub begin-requires-clause-described : goal.begin-requires-clause-described
begin-requires-clause-described c = grind (arith, length, same_read, is_described)

pub returns-in-Err : goal.returns-in-Err
returns-in-Err c version steps h a running stands =
    start_refused version c.args.first steps c.args.self.now _ c.in-Err.stop stands refl refl
    (c.in-Err.ensures.ready version c.args.first (chosen_steps steps) h (chosen_read refl c.index.ensures stands))

pub returns-then-is_twice : goal.returns-then-is_twice
returns-then-is_twice c version steps h a running stands =
    let ready = c.in-Ok.ensures.ready version c.args.first (chosen_steps steps) h (chosen_read refl c.index.ensures stands) in
    let twice = twice_is refl c.index-2.ensures stands ready.1 c.is_twice.ensures in
    (start_twice version c.args.first steps c.is_twice.result ready.0.0 twice c.if-is_twice.true, stands_as steps c.args.self.now _ stands refl refl)

pub returns : goal.returns
returns c version steps h a running stands =
    let ready = c.in-Ok.ensures.ready version c.args.first (chosen_steps steps) h (chosen_read refl c.index.ensures stands) in
    let twice = twice_is refl c.index-2.ensures stands ready.1 c.is_twice.ensures in
    answers refl c.index_mut.ensures.value stands _ c.begin.new.phase refl refl version (Start c.args.first) c.begin.result
    (record { line = λ s steps. refl; chooses = refl }) (is_single c.args.first steps c.is_twice.result twice c.if-is_twice.false)
    (c.begin.ensures version (chosen_steps steps) h a (stage_same (chosen_of steps) steps ∙ running) ready.0)
