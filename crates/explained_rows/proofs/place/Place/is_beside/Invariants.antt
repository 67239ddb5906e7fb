use Rattle.explained_rows.proofs.Prelude.{◌≡◌, drop, lines_told, told}
use Rattle.explained_rows.proofs.place.Place.is_beside.Given as goal

abbrev pub invariant-loop-octet : goal.invariant-loop-octet
invariant-loop-octet l = record {
  silent : told l.fn.self l.octets ≡ told l.place (drop l.octet-index l.octets);
  no_line : lines_told l.fn.self l.octets ≡ lines_told l.place (drop l.octet-index l.octets);
}
