use Rattle.replay_steps.proofs.Prelude.{◌≡◌, ◌+◌, ◌*◌, List, Step, SourcesStand, SinksStand, OnAir, histories_on_air, histories_of, CountsOn}
use Rattle.replay_steps.proofs.air_steps.hear_all.Given as goal

abbrev pub invariant-streams : goal.invariant-streams
invariant-streams l =
    ((steps : List Step) → OnAir steps l.sink l.event l.grid.streams l.grid.subevents → SourcesStand steps l.sources → SinksStand (histories_of steps) l.initial.sinks
    → SinksStand (histories_on_air steps l.sink l.lose (l.stream * l.grid.subevents)) l.sinks)
    × (l.losses.lose ≡ l.lose) × CountsOn l.lose (l.event * l.grid.streams * l.grid.subevents + l.stream * l.grid.subevents) l.losses.before
