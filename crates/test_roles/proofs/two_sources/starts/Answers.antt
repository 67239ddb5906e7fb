use Rattle.std.proofs.Common.{◌∙◌, ap}
use Rattle.big_info.specs.declared.info.BigInfo.{BigInfo}
use Rattle.test_roles.proofs.TwoSources.{has_own_air, is_plain, on_ok, stands}
use Rattle.test_roles.proofs.two_sources.starts.Goals as goal

pub returns-clause-own_air : goal.returns-clause-own_air
returns-clause-own_air c = on_ok c.start.result c.start.ensures.ok
    (λ at. has_own_air _ _ _ at.sending.source at.sending.begun at.sending.source_is at.sending.begun_is at.sending.setup_is at.sending.air.group)

pub returns-clause-plain : goal.returns-clause-plain
returns-clause-plain c = on_ok c.start.result c.start.ensures.ok
    (λ at. is_plain _ at.sending.source at.sending.source_is (at.cipher ∙ ap (λ (info : BigInfo). info.cipher) c.in-Some.ensures.info ∙ c.requires.plain))

pub returns-clause-begun : goal.returns-clause-begun
returns-clause-begun c = on_ok c.start.result c.start.ensures.ok (λ at. stands _ at.sending.begun at.sending.begun_is)

pub returns-clause-sending : goal.returns-clause-sending
returns-clause-sending c = on_ok c.start.result c.start.ensures.ok (λ at. (_, _, at.sending))

pub returns-clause-other_source : goal.returns-clause-other_source
returns-clause-other_source c = on_ok c.start.result c.start.ensures.others (λ others. others.source)

pub returns-clause-other_begun : goal.returns-clause-other_begun
returns-clause-other_begun c = on_ok c.start.result c.start.ensures.others (λ others. others.begun)
