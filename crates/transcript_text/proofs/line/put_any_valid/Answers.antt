use Rattle.transcript_text.proofs.line.put_any_valid.Goals as goal

pub returns-clause-ok : goal.returns-clause-ok
returns-clause-ok c = rw (← c.digits.ensures, ← c.from.ensures, ← c.from-2.ensures) c.put_line.ensures.ok
