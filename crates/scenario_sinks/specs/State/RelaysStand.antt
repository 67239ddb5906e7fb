-- What the relays of a scenario keep, and the past that it stands for.
use Rattle.std.specs.Prelude.{ℕ, ◌≡◌, ◌<◌, ◌≤◌, ◌↔◌, Bool, IsTrue, List, Option, Some, slice_get}
use Rattle.bcast_base.specs.Bis.{Has}
use Rattle.scenario_sinks.specs.declared.relays.Relays.{Relays}
use Rattle.scenario_sinks.specs.declared.route.Route.{Route}
use Rattle.scenario_sinks.specs.RelayHistories.{Histories, is_idle}

-- a set holds the streams of which this says so
abbrev pub Holds : ℕ → (ℕ → Bool) → Type 0
Holds set said = (b : ℕ) → 1 ≤ b → (Has set b ↔ IsTrue (said b))

-- the relays of the sinks are these
abbrev pub RoutesAre : Histories → List (Option Route) → Type 0
RoutesAre past routes = (n : ℕ) → n < 8 → slice_get routes n ≡ Some (past.routes n)

-- the relays are as their past left them
pub record RelaysStand (past : Histories) (relays : Relays) : Type 0 where
  pub routes : RoutesAre past relays.routes
  pub idle : relays.idle ≡ is_idle past
  pub relayed : Holds relays.relayed past.relayed
  pub given : Holds relays.given past.given
