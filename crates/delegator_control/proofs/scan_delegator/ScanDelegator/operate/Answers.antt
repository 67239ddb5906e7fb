use Rattle.delegator_control.proofs.Prelude.{refl, sym, subst, Operation, ScanStopped, ScanStarted, Accepted, Replies, Machine, machine}
use Rattle.delegator_control.proofs.Serving.{accepted, code_case}
use Rattle.delegator_control.proofs.Standing.{moved_nothing}
use Rattle.delegator_control.proofs.scan_delegator.ScanDelegator.operate.Goals as goal

pub returns-in-ScanStopped : goal.returns-in-ScanStopped
returns-in-ScanStopped c =
    let m : Machine = machine c.args.self.now in
    subst (λ (op : Operation). Replies op m m Accepted) (sym c.in-ScanStopped.is) (accepted ScanStopped m m Accepted refl refl (sym (moved_nothing m)))

pub returns-in-ScanStarted : goal.returns-in-ScanStarted
returns-in-ScanStarted c =
    let m : Machine = machine c.args.self.now in
    subst (λ (op : Operation). Replies op m m Accepted) (sym c.in-ScanStarted.is) (accepted ScanStarted m m Accepted refl refl (sym (moved_nothing m)))

pub returns-in-Code : goal.returns-in-Code
returns-in-Code c = code_case c.args.op c.in-Code.source_id _ (machine c.args.self.now) c.refuse_code.result c.in-Code.is c.refuse_code.ensures
