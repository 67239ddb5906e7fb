use Rattle.link_c.proofs.Prelude.{◌≡◌, ◌+◌, ◌++◌, ◌∷◌, [], ℕ, List, get_or, sym, ◌∙◌, arith, length-append, Wish, wish}
use Rattle.std.proofs.Common.{drop}
use Rattle.std.proofs.lemmas.List.{at_drop_all, at_drop_more}
use Rattle.link_c.specs.Wishes.{wishes_in}
use Rattle.link_c.proofs.Wished.{one_more, read_end, read_never, read_next, read_past, with_prefix}
use Rattle.link_c.proofs.wishes.wishes_of.Goals as goal

pub returns-in_default-clause-is : goal.returns-in_default-clause-is
returns-in_default-clause-is c =
    let all = c.args.bis_sync.now in
    let i = c.subgroups.bits-index in
    let prefix = c.subgroups.wishes in
    let rest = c.subgroups.rest.now in
    sym (read_never prefix (get_or all i 0) (drop (i + 1) all) rest c.in_default.ensures.is)
    ∙ (sym (at_drop_more (λ (left : List ℕ). with_prefix prefix (wishes_in left rest)) all i 0 c.subgroups-test.true) ∙ c.subgroups.invariant.0)

pub subgroups-preserved : goal.subgroups-preserved
subgroups-preserved c =
    let all = c.args.bis_sync.now in
    let i = c.subgroups.bits-index in
    let prefix = c.subgroups.wishes in
    let rest = c.subgroups.rest.now in
    let next : Wish = wish (get_or all i 0) c.in-Some.octets.now in
    let pushed : c.push.new.self ≡ prefix ++ next ∷ [] = rw (← c.in-Ok.ensures) c.in-Ok-push.ensures.ok in
    let read = read_next prefix (get_or all i 0) (drop (i + 1) all) rest c.in-Some.octets.now c.in-Some.behind.now c.in-Some.ensures.is in (
      rw pushed (read ∙ (sym (at_drop_more (λ (left : List ℕ). with_prefix prefix (wishes_in left rest)) all i 0 c.subgroups-test.true) ∙ c.subgroups.invariant.0)),
      rw pushed (one_more prefix next c.subgroups.invariant.1 c.in-Some.ensures.few),
      rw pushed (omega (arith, length-append prefix (next ∷ []), c.subgroups.invariant.2)),
    )

pub returns-then-is_empty-clause-is : goal.returns-then-is_empty-clause-is
returns-then-is_empty-clause-is c =
    let prefix = c.subgroups.wishes in
    let rest = c.subgroups.rest.now in
    sym (read_end prefix rest (sym c.is_empty.ensures ∙ c.if-is_empty.true))
    ∙ (sym (at_drop_all (λ (left : List ℕ). with_prefix prefix (wishes_in left rest)) c.args.bis_sync.now c.subgroups.bits-index c.subgroups-test.false)
    ∙ c.subgroups.invariant.0)

pub returns-else-is_empty-clause-is : goal.returns-else-is_empty-clause-is
returns-else-is_empty-clause-is c =
    let prefix = c.subgroups.wishes in
    let rest = c.subgroups.rest.now in
    sym (read_past prefix rest (sym c.is_empty.ensures ∙ c.if-is_empty.false))
    ∙ (sym (at_drop_all (λ (left : List ℕ). with_prefix prefix (wishes_in left rest)) c.args.bis_sync.now c.subgroups.bits-index c.subgroups-test.false)
    ∙ c.subgroups.invariant.0)
