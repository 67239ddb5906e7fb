use Rattle.bcast_base.proofs.Prelude.{◌≡◌, ◌<◌, ◌-◌, ◌*◌, ◌^◌, ◌+◌, length, take, sum_from}
use Rattle.bcast_base.proofs.numbers.write_le.Given as goal

-- the first octets are written, and what is left stands above them
abbrev pub invariant-loop-octet : goal.invariant-loop-octet
invariant-loop-octet l = record {
  written : l.value ≡ sum_from 0 (take l.octet-index l.into) + 2 ^ (8 * l.octet-index) * l.rest;
  small : l.rest < 2 ^ (8 * (length l.into - l.octet-index));
}
