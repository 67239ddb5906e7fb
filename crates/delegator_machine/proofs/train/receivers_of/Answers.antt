use Rattle.delegator_machine.proofs.Prelude.{Some, ap, ◌∙◌, option_copied, option_map, sym, BigSync, fresh_on, by_numbers}
use Rattle.delegator_machine.proofs.train.receivers_of.Goals as goal

pub returns-clause-made : goal.returns-clause-made
returns-clause-made c =
    ap Some (c.in_ok-made.ensures ∙ ap fresh_on c.by_numbers.ensures)
    ∙ ap (λ o. option_map (λ (big_sync : BigSync). fresh_on (by_numbers big_sync)) (option_copied o)) (sym c.in-Some.is)
