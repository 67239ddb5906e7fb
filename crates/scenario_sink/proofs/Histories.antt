-- A living sink that took a call.
use Rattle.scenario_sink.proofs.Prelude.{ℕ, ◌≡◌, true, List, ◌∷◌, Option, None, slice_get, option_map, with_step, Halves, Snapshot, written, Setup, has_group, is_joined, served, writes_waiting, Links, snapshot_in, LinkedSink, stayed, SinkHistory, IsSink, Stands, after_call, arith}
use Rattle.scenario_sink.specs.State.Stands.{given}
use Rattle.scenario_sink.proofs.Untold.{stays}

pub first_joined : (history : SinkHistory) (living : LinkedSink) → IsSink history living → is_joined 0 history.calls_made ≡ true
first_joined history living lives = lives.stands.took.first

-- what it stands for is the same, whatever source it is of
pub of_source : (source : Option ℕ) (history : SinkHistory) (d : Halves) (links : Links) → Stands history d links → Stands (record history { source = source }) d links
of_source source history d links its = grind arith

-- a write that is served synchronizes the sink to no BIG
none_given : (setup : Setup) (snapshot : Snapshot) (first : Option (List ℕ)) → given setup snapshot (option_map written first) ≡ None
none_given setup snapshot first = grind arith

pub served_stays : (link : ℕ) (history : SinkHistory) (d : Halves) (links : Links) → Stands (after_call (served link) history) d links → Stands (stayed (served link ∷ history.calls_made) history) d links
served_stays link history d links stands = grind (arith, snapshot_in, stayed, served, with_step, none_given, slice_get, writes_waiting)

-- no call at all
pub lives_stayed : (history : SinkHistory) (living : LinkedSink) → IsSink history living → IsSink (stayed history.calls_made history) living
lives_stayed history living lives = grind (arith, stays, has_group, snapshot_in)
