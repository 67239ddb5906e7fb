use Rattle.source_machine.proofs.Prelude.{ℕ, ◌≡◌, ◌<◌, ◌/◌, ◌%◌, length, get_or, ahead_of}
use Rattle.source_machine.proofs.carried.Carried.new.Given as goal

abbrev pub invariant-subevents : goal.invariant-subevents
invariant-subevents l = record {
  sizes : (length l.aheads ≡ 31) × (length l.places ≡ 31);
  aheads : (s : ℕ) → s < l.subevent → get_or l.aheads s 0 ≡ ahead_of l.group.info (s / l.group.info.bn);
  places : (s : ℕ) → s < l.subevent → get_or l.places s 0 ≡ s % l.group.info.bn;
}
