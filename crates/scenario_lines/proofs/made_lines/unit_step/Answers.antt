use Rattle.scenario_lines.proofs.Prelude.{◌≡◌, ◌++◌, ◌∙◌, ap, rules, unit_of}
use Rattle.scenario_lines.proofs.MadeSteps.{unit_says}
use Rattle.scenario_lines.proofs.made_lines.unit_step.Goals as goal

pub returns-clause-says : goal.returns-clause-says
returns-clause-says c version =
    let index : c.unwrap-bis.result ≡ c.args.bis = search rules in
    let octets : c.append.new.self ≡ unit_of c.args.x = c.in_ok-append.ensures.ok ∙ ap (λ first. first ++ c.octets_of.result) c.clear.ensures ∙ c.octets_of.ensures in
    rw (index, octets) (unit_says c.args.bis c.args.x version c.requires.least c.requires.greatest)
