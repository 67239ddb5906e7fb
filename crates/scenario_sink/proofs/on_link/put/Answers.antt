use Rattle.scenario_sink.proofs.Prelude.{◌≡◌, refl, sym, subst, ◌∙◌}
use Rattle.assistant_machine.specs.State.Assistants.{StandsFor}
use Rattle.scenario_sink.proofs.Lent.{its_own}
use Rattle.scenario_sink.proofs.Results.{on_ok}
use Rattle.scenario_sink.proofs.on_link.put.Goals as goal

pub returns-in-Some : goal.returns-in-Some
returns-in-Some c before is =
    let same : c.in-Some.assistant.now ≡ before = its_own c.assistant.result c.in-Some.assistant before c.in-Some.is (c.assistant.ensures.value ∙ is) in
    on_ok c.raw_octets.result (λ stands. record {
      heard = (tt, tt);
      after = c.raw_octets.new.self;
      links = refl;
      stands = λ slots taken stood. stands slots taken (subst (StandsFor slots taken) (sym same) stood);
    }) c.raw_octets.ensures.stands
