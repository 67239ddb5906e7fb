use Rattle.std.proofs.Common.{◌+◌, refl, sym, ◌∙◌, ap, arith, length-set}
use Rattle.radio_schedule.specs.Losing.{lost_at}
use Rattle.radio_schedule.proofs.Losing.{counts_on, none_everywhere, none_marked, one_marked}
use Rattle.radio_schedule.proofs.losses.Losses.next.Goals as goal

pub returns-then-self-eq0-clause-lost : goal.returns-then-self-eq0-clause-lost
returns-then-self-eq0-clause-lost c count counts s below = none_everywhere 31 s ∙ sym (ap (λ l. lost_at l (count + s)) c.if-self-eq0.true)

pub places-init : goal.places-init
places-init c = (
  refl,
  λ n counts. none_marked c.args.self.now.lose n c.from-count.result c.args.self.now.before _ (omega (arith, c.if-self-eq0.false)) counts (none_everywhere 31),
)

pub places-preserved : goal.places-preserved
places-preserved c =
    let all = c.places.invariant in (
      length-set c.places.lost _ _ ∙ all.0,
      λ n counts. rw (c.from.ensures, c.from-place.ensures)
          (one_marked c.args.self.now.lose n c.from-count.result c.places.place c.places.lost (omega (arith, c.if-self-eq0.false)) c.places-test.true
          (omega (arith, all.0, c.places-test.true, c.from-count.ensures, c.requires)) (all.1 n counts)),
    )

pub returns-clause-counted : goal.returns-clause-counted
returns-clause-counted c count counts some =
    rw (← c.from-count.ensures)
    (counts_on c.args.self.now.lose count c.from-count.result c.places.place c.places.lost some c.places-test.false (c.places.invariant.1 count counts) some)
