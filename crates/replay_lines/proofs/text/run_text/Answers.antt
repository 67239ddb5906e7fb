use Rattle.replay_lines.proofs.Prelude.{[], true, lines_of, unassigned_run}
use Rattle.replay_lines.proofs.Promises.{promised_run}
use Rattle.replay_lines.proofs.text.run_text.Goals as goal

pub returns-clause-promised : goal.returns-clause-promised
returns-clause-promised g c =
    promised_run _ _ c.run_lines.result c.run_lines.ensures.ended c.run_lines.ensures.within
    c.run_lines.ensures.read_fault c.run_lines.ensures.no_read_fault c.run_lines.ensures.write_fault c.run_lines.ensures.no_write_fault
    (c.laws_hold.ensures _)

pub returns-clause-unassigned : goal.returns-clause-unassigned
returns-clause-unassigned g c text airs is meets =
    unassigned_run airs _ (lines_of true text) _ _ (((c.laws_hold.ensures []).same airs meets).accepted _)
    (c.run_lines.ensures.unassigned text is)
