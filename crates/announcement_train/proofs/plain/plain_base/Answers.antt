use Rattle.announcement_train.proofs.Prelude.{ap, sym, ◌∙◌, finish_fault}
use Rattle.std.proofs.lemmas.Option.{none-some}
use Rattle.announcement_train.proofs.PlainBases.{plain_finishes}
use Rattle.announcement_train.proofs.plain.plain_base.Goals as goal

pub wanting-requires : goal.wanting-requires
wanting-requires c = absurd (none-some c.in-Err.kept.fault
    (sym (ap finish_fault c.in_ok-draft.ensures ∙ plain_finishes c.args.delay c.args.count c.requires.least c.requires.greatest) ∙ c.in-Err.ensures.refuses.0))
