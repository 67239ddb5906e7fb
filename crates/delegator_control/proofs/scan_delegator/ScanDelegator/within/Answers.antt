use Rattle.delegator_control.proofs.Prelude.{◌∙◌, ap, length, None, vec_len, length-replicate, arith}
use Rattle.delegator_control.proofs.Standing.{stands_new}
use Rattle.delegator_control.proofs.scan_delegator.ScanDelegator.within.Goals as goal

pub returns-clause-setup : goal.returns-clause-setup
returns-clause-setup c = grind (arith, length, length-replicate)

pub returns-clause-stands : goal.returns-clause-stands
returns-clause-stands c =
    let count = c.in_ok-empty_slots.field-0.ok.0 ∙ ap length c.in_ok-empty_slots.ensures ∙ length-replicate c.args.slots None in
    stands_new (record { streams = c.args.streams; slots = vec_len c.in_ok-empty_slots.field-0; horizon = c.args.limits.horizon })
    c.args.slots c.in_ok-empty_slots.field-0.items c.new.result c.new-2.result.items count c.in_ok-empty_slots.ensures c.new.ensures c.new-2.ensures.items
