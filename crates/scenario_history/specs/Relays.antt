-- The relays of a scenario, looked back for: which stream of a sink each hands on, and to which stream of source 1. Relays are this
-- project's own. Lists of steps have the newest first.
use Rattle.std.specs.Prelude.{ℕ, ◌==◌, Bool, true, false, List, Option, None, Some, unwrap_or, if◌then◌else◌}
use Rattle.std.specs.List.{list_any}
use Rattle.scenario_text.specs.declared.step.Step.{Step}
use Rattle.scenario_text.specs.declared.step.Step.TheVariants.{Drop, Relay}
use Rattle.scenario_history.specs.Steps.{last_given}

-- the stream of a sink whose valid units are handed on, and the stream of source 1 that they go to
pub record Route : Type 0 where
  pub bis : ℕ
  pub to : ℕ

abbrev pub relay_given : ℕ → Step → Option (Option Route)
relay_given n (Relay sink bis to) = if sink == n then Some (Some (record { bis = bis; to = to })) else None
relay_given n (Drop sink) = if sink == n then Some None else None
relay_given n _ = None

abbrev pub relay_of : ℕ → List Step → Option Route
relay_of n steps = unwrap_or (last_given (relay_given n) steps) None

abbrev pub relays_to : ℕ → Step → Bool
relays_to bis (Relay sink from to) = to == bis
relays_to bis _ = false

-- this stream of source 1 has had a relay, also where its sink was dropped since
abbrev pub had_relay : ℕ → List Step → Bool
had_relay bis steps = list_any (relays_to bis) steps

abbrev pub makes_relay : Step → Bool
makes_relay (Relay sink bis to) = true
makes_relay _ = false

abbrev pub has_relay : List Step → Bool
has_relay steps = list_any makes_relay steps
