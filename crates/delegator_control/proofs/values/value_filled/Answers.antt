use Rattle.delegator_control.proofs.Prelude.{◌++◌, ◌∙◌, groups_laid, status_seen}
use Rattle.delegator_control.proofs.Encoded.{in_two}
use Rattle.delegator_control.proofs.values.value_filled.Goals as goal

pub returns : goal.returns
returns c =
    c.in_ok-put_groups.ensures ∙ (λ i. c.in_ok-out.ensures.prefix i ++ groups_laid 0 c.args.status.now.bits.now (c.wishes.ensures i))
    ∙ in_two (status_seen c.args.status.now) c.args.slot.now
