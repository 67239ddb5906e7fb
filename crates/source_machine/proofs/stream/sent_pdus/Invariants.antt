use Rattle.source_machine.proofs.Prelude.{◌≡◌, Some, map, range_with_len, sent_at}
use Rattle.source_machine.proofs.stream.sent_pdus.Given as goal

abbrev pub invariant-places : goal.invariant-places
invariant-places l = map Some l.pdus ≡ map (sent_at l.group.info l.streams) (range_with_len 0 l.place)
