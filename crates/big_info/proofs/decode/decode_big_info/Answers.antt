use Rattle.big_info.proofs.Prelude.{◌∙◌}
use Rattle.big_info.proofs.Cuts.{is_exact, info_read}
use Rattle.big_info.proofs.decode.decode_big_info.Goals as goal

pub returns-clause-exact : goal.returns-clause-exact
returns-clause-exact c = is_exact c.args.from.now c.read_info.result c.read_info.ensures.layout c.read_info.ensures.length

pub returns-clause-only : goal.returns-clause-only
returns-clause-only c info h =
    is_exact c.args.from.now c.read_info.result c.read_info.ensures.layout c.read_info.ensures.length ∙ info_read c.args.from.now info h.0 h.1
