use Rattle.replay_migration.proofs.Prelude.{◌∙◌, ap, length, newline, is_byte}
use Rattle.memchr.proofs.lemmas.CallerLemmas.{length-places}
use Rattle.replay_migration.proofs.piece.lines_ended.Goals as goal

pub returns-clause-count : goal.returns-clause-count
returns-clause-count c = c.count.ensures ∙ ap length c.memchr_iter.ensures.value ∙ length-places (is_byte newline) c.args.octets.now
