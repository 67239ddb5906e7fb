use Rattle.delegator_control.proofs.Prelude.{◌≡◌, Some, sym, ◌∙◌, ap, arith, base_of, bytes_eq-Decides}
use Rattle.delegator_control.proofs.kept_base.KeptBase.take.Goals as goal

pub returns-in-Some : goal.returns-in-Some
returns-in-Some c =
    let same : c.as_slice.result.now ≡ c.args.from.now =
    (bytes_eq-Decides c.as_slice.result.now c.args.from.now).0 (sym c.are_same.ensures ∙ c.if-not-are_same.false) in
    let here : c.args.self.now.base ≡ Some c.in-Some.base = sym c.take.ensures.value ∙ c.in-Some.is in
    ap base_of (sym same ∙ c.as_slice.ensures) ∙ c.args.self.now.read c.in-Some.base here
