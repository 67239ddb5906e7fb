use Rattle.scenario_sink.proofs.Prelude.{◌≡◌, sym, ap, subst, ◌∙◌, Option, None, IfOk, option_map, slice_index_or, value, Assistant, ReceiveState, MutBor}
use Rattle.scenario_sink.proofs.Lent.{given_back, its_own}
use Rattle.scenario_sink.proofs.on_link.view_on.Goals as goal

pub returns-in-Some-clause-answer : goal.returns-in-Some-clause-answer
returns-in-Some-clause-answer c before is encoded =
    let same : c.in-Some.assistant.now ≡ before = its_own c.assistant.result c.in-Some.assistant before c.in-Some.is (c.assistant.ensures.value ∙ is) in
    let shown = c.view.ensures.view ∙ ap (λ (a : Assistant). slice_index_or a.views c.args.slot None) same in
    subst (λ (view : Option ReceiveState). IfOk c.octets_of.result (λ octets. octets ≡ value view)) shown (c.octets_of.ensures.value (λ state e. encoded state (sym shown ∙ e)))

pub returns-in-Some-clause-same : goal.returns-in-Some-clause-same
returns-in-Some-clause-same c = (given_back c.args.links.now c.args.link c.in-Some.assistant.now (sym c.assistant.ensures.value ∙ ap (option_map (λ (r : MutBor Assistant). r.now)) c.in-Some.is)).0

pub returns-in-Some-clause-terms : goal.returns-in-Some-clause-terms
returns-in-Some-clause-terms c =
    let back = given_back c.args.links.now c.args.link c.in-Some.assistant.now (sym c.assistant.ensures.value ∙ ap (option_map (λ (r : MutBor Assistant). r.now)) c.in-Some.is) in (back.1, back.2)
