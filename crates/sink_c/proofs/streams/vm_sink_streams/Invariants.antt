use Rattle.sink_c.proofs.Prelude.{◌≡◌, ◌≤◌, ◌<◌, ◌↔◌, ℕ, List, true, Setup, Call, group_calls, Stands, is_taken}
use Rattle.bcast_base.specs.Bis.{Has}
use Rattle.group_sink.specs.Calls.{place}
use Rattle.sink_c.proofs.streams.vm_sink_streams.Given as goal

-- the set has the streams below the index that are taken, and no others
abbrev pub invariant-streams : goal.invariant-streams
invariant-streams l = record {
  kept : l.sink.kept ≡ l.fn.sink.kept;
  taken : (setup : Setup) (calls : List Call) → Stands setup calls l.fn.sink → (bis : ℕ) → 1 ≤ bis → bis < l.index
      → (Has l.taken bis ↔ (is_taken (place (group_calls setup calls)) bis ≡ true));
  rest : (bis : ℕ) → 1 ≤ bis → l.index ≤ bis → ¬ Has l.taken bis;
}
