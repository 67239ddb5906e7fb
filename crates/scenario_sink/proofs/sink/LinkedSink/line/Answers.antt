use Rattle.scenario_sink.proofs.Prelude.{None, refl, subst, arith, is_joined, IsInRange}
use Rattle.scenario_sink.proofs.Arms.{does_so}
use Rattle.scenario_sink.proofs.Histories.{first_joined}
use Rattle.scenario_sink.proofs.Others.{of_lent}
use Rattle.scenario_sink.proofs.Turning.{past_link}
use Rattle.scenario_sink.proofs.sink.LinkedSink.line.Goals as goal

pub pac-requires-clause-caps_count : goal.pac-requires-clause-caps_count
pac-requires-clause-caps_count c = (subst IsInRange c.in-Pac.is c.requires.range).2

pub pac-requires-clause-metadata_count : goal.pac-requires-clause-metadata_count
pac-requires-clause-metadata_count c = (subst IsInRange c.in-Pac.is c.requires.range).3

pub pac-requires-clause-caps : goal.pac-requires-clause-caps
pac-requires-clause-caps c = (subst IsInRange c.in-Pac.is c.requires.range).4

pub pac-requires-clause-metadata : goal.pac-requires-clause-metadata
pac-requires-clause-metadata c = (subst IsInRange c.in-Pac.is c.requires.range).5

pub operate-requires : goal.operate-requires
operate-requires c = (subst IsInRange c.in-Add.is c.requires.range).1

pub operate-requires-in-Modify : goal.operate-requires-in-Modify
operate-requires-in-Modify c = (subst IsInRange c.in-Modify.is c.requires.range).1

pub returns-in-Pac : goal.returns-in-Pac
returns-in-Pac c source history from lives = does_so source c.args.step _ history c.args.text.now c.pac.new.self c.pac.result c.in-Pac.is refl (c.pac.ensures source c.in-Pac.sink history lives)

pub returns-in-Write : goal.returns-in-Write
returns-in-Write c source history from lives =
    does_so source c.args.step _ history c.args.text.now c.write.new.self c.write.result c.in-Write.is refl (grind (arith, past_link (is_joined 0 history.calls_made) None (first_joined history c.args.self.now lives), c.write.ensures history lives))

pub returns-in-AWrite : goal.returns-in-AWrite
returns-in-AWrite c source history from lives = does_so source c.args.step _ history c.args.text.now c.write-in-AWrite.new.self c.write-in-AWrite.result c.in-AWrite.is refl (c.write-in-AWrite.ensures history lives)

pub returns-in-Add : goal.returns-in-Add
returns-in-Add c source history from lives = does_so source c.args.step _ history c.args.text.now c.operate.new.self c.operate.result c.in-Add.is refl (c.operate.ensures history lives)

pub returns-in-Modify : goal.returns-in-Modify
returns-in-Modify c source history from lives = does_so source c.args.step _ history c.args.text.now c.operate-in-Modify.new.self c.operate-in-Modify.result c.in-Modify.is refl (c.operate-in-Modify.ensures history lives)

pub lent_line-requires-clause-lent : goal.lent_line-requires-clause-lent
lent_line-requires-clause-lent c = of_lent c.args.step (grind arith)
