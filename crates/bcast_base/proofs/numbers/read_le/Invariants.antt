use Rattle.bcast_base.proofs.Prelude.{◌≡◌, ◌<◌, ◌-◌, ◌*◌, ◌^◌, length, drop, sum_from}
use Rattle.bcast_base.proofs.numbers.read_le.Given as goal

-- the last octets are read, as many as there were turns
abbrev pub invariant-loop-place : goal.invariant-loop-place
invariant-loop-place l = record { read : l.value ≡ sum_from 0 (drop (length l.from - l.place) l.from); small : l.value < 2 ^ (8 * l.place) }
