use Rattle.multi_source.proofs.Prelude.{ap, refl, ◌∙◌, silence, Setup, Configured, configured, started}
use Rattle.multi_source.proofs.Starting.{starts}
use Rattle.multi_source.proofs.field.Field.start.Goals as goal

pub returns-clause-ok : goal.returns-clause-ok
returns-clause-ok c =
    let is = c.in-Ok.ensures.ok.0 in
    let ok = c.in-Ok-start.ensures.ok in
    let announced = c.in-Ok-start.ensures.announced in
    let setup_is = ok.1 ∙ ap (λ (s : Configured). started s c.args.first) is in
    starts (configured c.args.setup c.args.limits.ahead) c.args.first _ _ c.in-Ok-start.source
    (record { identity = c.args.setup.identity; air = c.in-Ok-new.air })
    c.place.ensures.source c.place.ensures.begun (ok.0 ∙ ap (λ (s : Configured). s.identity) is)
    (announced.0 ∙ ap (λ (s : Configured). s.base) is, announced.1 ∙ ap (λ (s : Configured). s.cipher) is) setup_is ok.2 refl
    (c.in-Ok-new.ensures ∙ ap silence (c.group.ensures ∙ ap (λ (s : Setup). s.info) setup_is))
