use Rattle.std.proofs.Common.{◌∙◌, Ok, Err, ap}
use Rattle.replay_migration.proofs.Endings.{ends_text, ends_refused, ends_failed, ends_wanting, text_at}
use Rattle.replay_migration.proofs.migration.run_migration.Goals as goal

pub returns-in-Ok-Whole-clause-ended : goal.returns-in-Ok-Whole-clause-ended
returns-in-Ok-Whole-clause-ended g c =
    ends_text _ _ _ _ c.in-Ok-Whole.text (text_at _ _ _ _ (c.in-Ok-Whole.is ∙ ap Ok c.in-Ok-Whole.field-0-is) c.read_text.ensures.reads)
    c.write_text.result c.write_text.ensures.puts

pub returns-in-Ok-TooLong-clause-ended : goal.returns-in-Ok-TooLong-clause-ended
returns-in-Ok-TooLong-clause-ended g c =
    ends_refused _ _ _ _ c.in-Ok-TooLong.line (text_at _ _ _ _ (c.in-Ok-TooLong.is ∙ ap Ok c.in-Ok-TooLong.field-0-is) c.read_text.ensures.reads)
    c.write_refusal.result c.write_refusal.ensures.puts

pub returns-in-Err-Failed-clause-ended : goal.returns-in-Err-Failed-clause-ended
returns-in-Err-Failed-clause-ended g c =
    ends_failed _ _ _ (text_at _ _ _ _ (c.in-Err-Failed.is ∙ ap Err c.in-Err-Failed.field-0-is) c.read_text.ensures.reads)

pub returns-in-Err-Memory-clause-ended : goal.returns-in-Err-Memory-clause-ended
returns-in-Err-Memory-clause-ended g c =
    ends_wanting _ _ _ (text_at _ _ _ _ (c.in-Err-Memory.is ∙ ap Err c.in-Err-Memory.field-0-is) c.read_text.ensures.reads)
