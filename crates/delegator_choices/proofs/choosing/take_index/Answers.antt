use Rattle.delegator_choices.proofs.Prelude.{◌≡◌, ◌+◌, ◌∙◌, Bool, true, false, List, ℕ, ap, sym, subst, arith, Leads, is_chosen, left_of, with_one}
use Rattle.delegator_choices.proofs.Taken.{leads_with, left_no, left_yes}
use Rattle.delegator_choices.proofs.choosing.take_index.Goals as goal

pub returns-then-not-is_candidate : goal.returns-then-not-is_candidate
returns-then-not-is_candidate c all first leads =
    let test : ℕ → Bool = is_chosen c.args.choice.now in
    let same : c.in-Some.bis ≡ c.args.index = omega (arith, c.in-Some.ensures) in
    let fails : test c.args.index ≡ false = ap test (sym same) ∙ sym c.is_candidate.ensures ∙ c.if-not-is_candidate.true in
    subst (λ (rest : List ℕ). Leads all first rest c.args.taking) (left_no test c.args.index c.requires.greatest fails) leads

pub returns : goal.returns
returns c all first leads =
    let test : ℕ → Bool = is_chosen c.args.choice.now in
    let same : c.in-Some.bis ≡ c.args.index = omega (arith, c.in-Some.ensures) in
    let passes : test c.args.index ≡ true = ap test (sym same) ∙ sym c.is_candidate.ensures ∙ c.if-not-is_candidate.false in
    leads_with all first c.args.taking c.with_stream.result c.args.index (left_of c.args.choice.now (c.args.index + 1))
    c.with_stream.ensures.room (c.with_stream.ensures.which ∙ ap (λ bis. with_one c.args.taking.room bis c.args.taking.which) same)
    (c.with_stream.ensures.bits ∙ ap (λ bis. with_one c.args.taking.room bis c.args.taking.bits) same)
    (subst (λ (rest : List ℕ). Leads all first rest c.args.taking) (left_yes test c.args.index c.requires.greatest passes) leads)
