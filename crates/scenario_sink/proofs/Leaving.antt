-- A write that is served synchronizes no sink to a BIG, so that a row of them takes it off one at most once.
use Rattle.scenario_sink.proofs.Prelude.{ℕ, ◌≡◌, false, List, ◌∷◌, slice_get, Option, Some, None, refl, option_map, with_step, snapshot_goes_on, Step, snapshot_of, written, Setup, Call, served, steps_of, writes_waiting, has_group, arith, stays_off}
use Rattle.group_sink.specs.Calls as sinks
use Rattle.sink_history.specs.Calls as links

-- ---- steps

-- a sink that was on no group then is on none now
abbrev pub StaysOff : Setup → (before after : List Call) → Type 0
StaysOff setup before after = has_group (snapshot_of setup (steps_of before)).place ≡ false → has_group (snapshot_of setup (steps_of after)).place ≡ false

off_by : (setup : Setup) (first : Option (List ℕ)) (earlier : List Step) → has_group (snapshot_of setup earlier).place ≡ false
    → has_group (snapshot_of setup (links.with_step (option_map written first) earlier)).place ≡ false
off_by setup None earlier off = off
off_by setup (Some octets) earlier off = grind (arith, snapshot_goes_on setup (written octets) earlier, stays_off setup (snapshot_of setup earlier) (written octets) refl off)

pub served_off : (setup : Setup) (link : ℕ) (calls : List Call) → StaysOff setup calls (served link ∷ calls)
served_off setup link calls = off_by setup (slice_get (writes_waiting link calls) 0) (steps_of calls)

-- ---- what the receivers take

pub goes_on : (setup : Setup) (before mid after : List Call) (history : List sinks.Call) → StaysOff setup before mid → StaysOff setup mid after
    → with_step None (snapshot_of setup (steps_of mid)) (snapshot_of setup (steps_of after)) (with_step None (snapshot_of setup (steps_of before)) (snapshot_of setup (steps_of mid)) history)
    ≡ with_step None (snapshot_of setup (steps_of before)) (snapshot_of setup (steps_of after)) history
goes_on setup before mid after history off more = grind (arith, has_group, snapshot_of, steps_of)
