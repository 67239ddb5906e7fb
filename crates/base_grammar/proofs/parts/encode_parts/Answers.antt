use Rattle.base_grammar.proofs.Prelude.{arith, ap, sym, subst, ◌∙◌, BaseIs, endpoint, result_err}
use Rattle.base_grammar.proofs.Encoded.{parts_are, parts_too_long}
use Rattle.base_grammar.proofs.parts.encode_parts.Goals as goal

pub returns-then-is_none-clause-fault : goal.returns-then-is_none-clause-fault
returns-then-is_none-clause-fault c =
    parts_too_long (endpoint c.args.delay c.args.subgroups.now) c.behind_subgroups.result c.behind_subgroups.ensures
    (grind (arith, c.is_none.ensures, c.if-is_none.true))

pub returns-in-Ok-clause-base : goal.returns-in-Ok-clause-base
returns-in-Ok-clause-base c =
    subst (BaseIs (endpoint c.args.delay c.args.subgroups.now)) c.as_slice.ensures
    (parts_are (endpoint c.args.delay c.args.subgroups.now) c.as_slice.result.now c.requires.delay c.requires.codecs
    c.check_octets.ensures.octets (c.as_slice.ensures ∙ c.in_ok-octets.ensures)
    (sym (ap result_err c.in-Ok.is) ∙ c.check_octets.ensures.fault))
