use Rattle.delegator_control.proofs.Prelude.{◌≡◌, ◌-◌, ◌++◌, ◌∷◌, ◌∙◌, List, Some, length, slice_get, suc, true, false, ap, sym, subst, arith, not, Wish}
use Rattle.delegator_control.proofs.Encoded.{ends_so}
use Rattle.delegator_control.proofs.values.ends_otherwise.Goals as goal

pub returns : goal.returns
returns c is status same =
    let wishes : List Wish = c.args.slot.now.wanted.wishes in
    let all : c.count-count.result ≡ length wishes = c.count-count.ensures.same ∙ ap length c.wishes-wishes.ensures in
    let many : suc (c.count-count.result - 1) ≡ length wishes = omega (arith, all, c.if-count-eq0.false) in
    let last : slice_get wishes (c.count-count.result - 1) ≡ Some c.item-last.result.now =
    subst (λ (ws : List Wish). slice_get ws (c.count-count.result - 1) ≡ Some c.item-last.result.now) c.wishes-wishes.ensures c.item-last.ensures in
    let ends = ends_so status c.args.slot.now (c.count-count.result - 1) c.item-last.result.now many last in
    let does : c.ends_counted.result ≡ true = c.ends_counted.ensures ends.0
    (c.as_slice.ensures ∙ sym same ∙ ends.1 ∙ ap (λ metadata. ends.0 ++ length metadata ∷ metadata) (sym c.as_slice-2.ensures)) in
    let not_so : true ≡ false = sym is ∙ ap not does in
    cc
