use Rattle.delegator_control.proofs.Prelude.{◌∙◌, sym}
use Rattle.delegator_control.proofs.Followed.{found_filled}
use Rattle.delegator_control.proofs.scan_delegator.ScanDelegator.bring_train.Goals as goal

pub bring_wanted-requires-clause-filled : goal.bring_wanted-requires-clause-filled
bring_wanted-requires-clause-filled c =
    found_filled c.args.train.now.address_type c.args.train.now.sid c.in-Some.id c.args.self.now.slots.items c.in-Some-found.slot (sym c.find_slot-found.ensures.first ∙ c.in-Some-found.is)
