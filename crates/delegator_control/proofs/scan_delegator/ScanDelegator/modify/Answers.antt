use Rattle.delegator_control.proofs.Prelude.{◌∙◌, sym, Modify, Machine, machine, arith}
use Rattle.delegator_history.specs.declared.replies.Cause.TheVariants as causes
use Rattle.delegator_control.proofs.Serving.{refused, modify_unknown}
use Rattle.delegator_control.proofs.scan_delegator.ScanDelegator.modify.Goals as goal

pub returns-in_default : goal.returns-in_default
returns-in_default c =
    let m : Machine = machine c.args.self.now in
    refused (Modify c.args.modify) m causes.SourceUnknown c.refused.result
    (modify_unknown m.snapshot c.args.modify (sym c.find_slot-found.ensures.first ∙ c.in_default.is)) c.refused.ensures

pub modify_held-requires-clause-found : goal.modify_held-requires-clause-found
modify_held-requires-clause-found c = sym c.find_slot-found.ensures.first ∙ c.in-Some.is

pub modify_held-requires-clause-within : goal.modify_held-requires-clause-within
modify_held-requires-clause-within c = grind (arith, machine)
