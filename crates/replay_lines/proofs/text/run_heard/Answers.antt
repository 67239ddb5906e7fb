use Rattle.replay_lines.proofs.Prelude.{[], true, lines_of, unassigned_run}
use Rattle.replay_lines.proofs.Listening.{heard_run}
use Rattle.replay_lines.proofs.text.run_heard.Goals as goal

pub returns-clause-heard : goal.returns-clause-heard
returns-clause-heard g c =
    heard_run g.L.Listener.may_fail _ _ c.run_lines.result c.run_lines.ensures.ended c.run_lines.ensures.within
    c.run_lines.ensures.read_fault c.run_lines.ensures.no_read_fault c.run_lines.ensures.write_fault c.run_lines.ensures.no_write_fault
    (c.laws_hold.ensures _)

pub returns-clause-unassigned : goal.returns-clause-unassigned
returns-clause-unassigned g c text airs is meets =
    unassigned_run airs _ (lines_of true text) _ _ (((c.laws_hold.ensures []).same airs meets).accepted _)
    (c.run_lines.ensures.unassigned text is)
