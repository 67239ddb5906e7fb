use Rattle.isoal_unframed.proofs.Prelude.{◌≡◌, per_event_of, arith, drop-drop}
use Rattle.isoal_unframed.proofs.Places.{places_fit}
use Rattle.isoal_unframed.proofs.Windows.{place_at_most, sum_more}
use Rattle.isoal_unframed.proofs.window.held.Goals as goal

pub held-sum-requires : goal.held-sum-requires
held-sum-requires c = grind (arith, places_fit, place_at_most)

pub slots-preserved : goal.slots-preserved
slots-preserved c = grind (arith, drop-drop, sum_more)

pub returns-clause-bound : goal.returns-clause-bound
returns-clause-bound c = let count : c.slots.counter ≡ per_event_of c.args.stream.now.group.info = omega arith in rw (← count, ← c.from-max_sdu.ensures) c.slots.invariant.bound

pub returns-clause-held : goal.returns-clause-held
returns-clause-held c = let count : c.slots.counter ≡ per_event_of c.args.stream.now.group.info = omega arith in rw (← count, ← c.requires.is_open.place) c.slots.invariant.held
