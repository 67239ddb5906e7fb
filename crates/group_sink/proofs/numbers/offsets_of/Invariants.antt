use Rattle.group_sink.proofs.Prelude.{ℕ, ◌≡◌, ◌<◌, length, get_or, payload_number}
use Rattle.group_sink.proofs.numbers.offsets_of.Given as goal

abbrev pub invariant-subevents : goal.invariant-subevents
invariant-subevents l = record {
  size : length l.offsets ≡ 31;
  done : (s : ℕ) → s < l.subevent → get_or l.offsets s 0 ≡ payload_number l.group.info 0 s;
}
