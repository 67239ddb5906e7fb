use Rattle.delegator_choices.proofs.Prelude.{List, ℕ, subst, arith, Leads, chosen_of}
use Rattle.delegator_choices.proofs.Candidates.{left_none}
use Rattle.delegator_choices.proofs.Taken.{leads_end}
use Rattle.delegator_choices.proofs.choosing.take_of.Goals as goal

pub indices-preserved : goal.indices-preserved
indices-preserved c = record {
  least = omega arith;
  leads = c.take_index-taking.ensures (chosen_of c.args.choice.now) c.args.first c.indices.invariant.leads;
}

pub returns : goal.returns
returns c =
    leads_end (chosen_of c.args.choice.now) c.args.first c.indices.taking
    (subst (λ (rest : List ℕ). Leads (chosen_of c.args.choice.now) c.args.first rest c.indices.taking)
    (left_none c.args.choice.now c.indices.index (omega (arith, c.indices-test.false))) c.indices.invariant.leads)
