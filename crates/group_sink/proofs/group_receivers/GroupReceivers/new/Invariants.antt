use Rattle.group_sink.proofs.Prelude.{◌≡◌, ◌+◌, ◌≤◌, map, vec_len, fresh, stay_on}
use Rattle.group_sink.proofs.Places.{below, places_before}
use Rattle.group_sink.proofs.group_receivers.GroupReceivers.new.Given as goal

abbrev pub invariant-indices : goal.invariant-indices
invariant-indices l = record {
  few : vec_len l.streams + 1 ≤ l.index;
  places : l.places ≡ places_before l.big_sync.which l.index;
  fresh : l.streams.items ≡ map (λ bis. fresh (stay_on l.big_sync bis)) (below l.big_sync.which l.index);
}
