use Rattle.scenario_sink.proofs.Prelude.{refl, sym, ap, subst, ◌∙◌, arith, IsInRange}
use Rattle.scenario_text.specs.declared.step.Step.TheVariants as steps
use Rattle.scenario_sink.proofs.Arms.{does_so, makes_so}
use Rattle.scenario_sink.proofs.Others.{of_link}
use Rattle.scenario_sink.proofs.sink.LinkedSink.lent_line.Goals as goal

pub train-requires : goal.train-requires
train-requires c = let h = (subst IsInRange c.in-Train.is c.requires.range).1 in omega (arith, h)

pub assist-requires : goal.assist-requires
assist-requires c = (subst IsInRange c.in-Assist.is c.requires.range).1

pub apart-requires-clause-least : goal.apart-requires-clause-least
apart-requires-clause-least c = (subst IsInRange c.in-Apart.is c.requires.range).1

pub apart-requires-clause-most : goal.apart-requires-clause-most
apart-requires-clause-most c = (subst IsInRange c.in-Apart.is c.requires.range).2

pub returns-in-Locate : goal.returns-in-Locate
returns-in-Locate c source history from lives = does_so source c.args.step _ history c.args.text.now c.locate.new.self c.locate.result c.in-Locate.is refl (c.locate.ensures source c.in-Locate.sink history lives)

pub returns-in-Context : goal.returns-in-Context
returns-in-Context c source history from lives = does_so source c.args.step _ history c.args.text.now c.context.new.self c.context.result c.in-Context.is refl (c.context.ensures source c.in-Context.sink c.in-Context.source_bits history lives)

pub returns-in-Train : goal.returns-in-Train
returns-in-Train c source history from lives =
    makes_so source c.args.step _ history c.args.text.now c.train.new.text c.train.new.self c.train.result
    (c.in-Train.is ∙ (λ i. steps.Train c.in-Train.sink c.in-Train.time (sym c.as_slice.ensures i) (sym c.as_slice-in-Train.ensures i) (sym c.as_slice-in-Train-2.ensures i)))
    (c.train.ensures source history from lives)

pub returns-in-Remove : goal.returns-in-Remove
returns-in-Remove c source history from lives = does_so source c.args.step _ history c.args.text.now c.operate.new.self c.operate.result c.in-Remove.is refl (c.operate.ensures history lives)

pub returns-in-Code : goal.returns-in-Code
returns-in-Code c source history from lives = does_so source c.args.step _ history c.args.text.now c.operate-in-Code.new.self c.operate-in-Code.result c.in-Code.is refl (c.operate-in-Code.ensures history lives)

pub returns-in-Show : goal.returns-in-Show
returns-in-Show c source history from lives = makes_so source c.args.step _ history c.args.text.now c.show.new.text c.show.new.self c.show.result c.in-Show.is (c.show.ensures source history lives)

pub returns-in-Lose : goal.returns-in-Lose
returns-in-Lose c source history from lives = makes_so source c.args.step _ history c.args.text.now c.lose.new.text c.lose.new.self c.lose.result c.in-Lose.is (c.lose.ensures source history lives)

pub returns-in-Control : goal.returns-in-Control
returns-in-Control c source history from lives = makes_so source c.args.step _ history c.args.text.now c.control.new.text c.control.new.self c.control.result (c.in-Control.is ∙ ap (λ octets. steps.Control c.in-Control.sink octets) (sym c.as_slice-in-Control.ensures)) (c.control.ensures source history lives)

pub returns-in-Forge : goal.returns-in-Forge
returns-in-Forge c source history from lives = makes_so source c.args.step _ history c.args.text.now c.forge.new.text c.forge.new.self c.forge.result (c.in-Forge.is ∙ ap (λ octets. steps.Forge c.in-Forge.sink c.in-Forge.slot octets) (sym c.as_slice-in-Forge.ensures)) (c.forge.ensures source history lives)

pub returns-in-Assist : goal.returns-in-Assist
returns-in-Assist c source history from lives = does_so source c.args.step _ history c.args.text.now c.assist.new.self c.assist.result c.in-Assist.is refl (c.assist.ensures source c.in-Assist.sink history lives)

pub returns-in-Apart : goal.returns-in-Apart
returns-in-Apart c source history from lives = does_so source c.args.step _ history c.args.text.now c.apart.new.self c.apart.result c.in-Apart.is refl (c.apart.ensures source c.in-Apart.sink history lives)

pub link_line-requires : goal.link_line-requires
link_line-requires c = of_link c.args.step (grind arith) c.requires.line c.requires.lent

pub returns-in_default : goal.returns-in_default
returns-in_default c source history from lives = c.link_line.ensures source history lives
