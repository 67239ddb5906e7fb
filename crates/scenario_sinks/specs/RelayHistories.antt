-- What became of the relays of a scenario so far: by the number of a sink its relay, where it has one; by the index of a stream of
-- source 1 whether it has had a relay, and whether it was given a unit. Relays are this project's own; a unit is an SDU of Core 5.2,
-- volume 6 part G, section 1.
use Rattle.std.specs.Prelude.{ℕ, ◌==◌, ◌||◌, Bool, false, Option, None, Some, is_none, if◌then◌else◌}
use Rattle.std.specs.List.{list_all, range_with_len}
use Rattle.scenario_sinks.specs.declared.route.Route.{Route}

pub record Histories : Type 0 where
  pub routes : ℕ → Option Route
  pub relayed : ℕ → Bool
  pub given : ℕ → Bool

abbrev pub nothing : Histories
nothing = record { routes = λ m. None; relayed = λ b. false; given = λ b. false }

-- no sink has a relay
abbrev pub is_idle : Histories → Bool
is_idle past = list_all (λ n. is_none (past.routes n)) (range_with_len 0 8)

-- the sink of this number gets a relay from a stream of its own to one of source 1
abbrev pub with_relay : (n bis to : ℕ) → Histories → Histories
with_relay n bis to past = record {
  routes = λ m. if n == m then Some (record { bis = bis; to = to }) else past.routes m;
  relayed = λ b. (to == b) || past.relayed b;
  given = past.given;
}

-- the sink of this number ends, and its relay with it
abbrev pub without : ℕ → Histories → Histories
without n past = record {
  routes = λ m. if n == m then None else past.routes m;
  relayed = past.relayed;
  given = past.given;
}

-- source 1 is given a unit of this stream
abbrev pub with_relayed_unit : ℕ → Histories → Histories
with_relayed_unit bis past = record {
  routes = past.routes;
  relayed = past.relayed;
  given = λ b. (bis == b) || past.given b;
}
