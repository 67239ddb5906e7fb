use Rattle.std.proofs.Common.{ℕ, ◌≡◌, ◌-◌, length}
use Rattle.radio_schedule.specs.Losing.{CountsOn}
use Rattle.radio_schedule.proofs.Losing.{Marked}
use Rattle.radio_schedule.proofs.losses.Losses.next.Given as goal

abbrev pub decreases-places : goal.decreases-places
decreases-places l = l.count - l.place

abbrev pub invariant-places : goal.invariant-places
invariant-places l =
    (length l.lost ≡ 31) × ((n : ℕ) → CountsOn l.fn.self.lose n l.fn.self.before → Marked l.fn.self.lose n l.count l.place l.lost)
