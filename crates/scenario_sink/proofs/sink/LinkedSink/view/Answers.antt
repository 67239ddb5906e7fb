use Rattle.scenario_sink.proofs.Prelude.{◌≡◌, ◌<◌, ◌∙◌, sym, subst, arith, Option, None, IfOk, slice_index_or, view_of, value, ReceiveState}
use Rattle.scenario_sink.proofs.Calls.{Here, here, its_assistant, its_view, slots_there}
use Rattle.scenario_sink.proofs.Heard.{views_fit}
use Rattle.scenario_sink.proofs.Stands.{unchanged}
use Rattle.scenario_sink.proofs.sink.LinkedSink.view.Goals as goal

pub returns-clause-answer : goal.returns-clause-answer
returns-clause-answer c history lives on =
    let old = c.args.self.now in
    let h : Here c.args.link history old.links = here c.args.link history old.delegator old.links lives.stands on in
    let below : c.args.slot < history.made.setup.slots =
    let same : history.made.setup.slots ≡ old.slots = slots_there history old.delegator old.links old.slots lives.stands old.fits in omega (arith, same, c.requires) in
    let same : slice_index_or h.on.assistant.views c.args.slot None ≡ view_of c.args.slot h.holds.taken = its_view c.args.link history old.links h c.args.slot below in
    subst (λ (view : Option ReceiveState). IfOk c.view_on.result (λ octets. octets ≡ value view)) (same ∙ h.holds.views c.args.slot)
    (c.view_on.ensures.answer h.on.assistant (its_assistant c.args.link history old.links h)
    (λ state is. views_fit c.read_is_state.ensures c.args.slot h.holds.taken state h.holds.heard (sym same ∙ is)))

pub returns-clause-lives : goal.returns-clause-lives
returns-clause-lives c history lives =
    record { stands = unchanged history _ _ _ lives.stands c.view_on.ensures.terms c.view_on.ensures.same; source_is = lives.source_is }
