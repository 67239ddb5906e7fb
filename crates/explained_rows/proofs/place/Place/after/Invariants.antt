use Rattle.explained_rows.proofs.Prelude.{◌≡◌, drop, place_after}
use Rattle.explained_rows.proofs.place.Place.after.Given as goal

abbrev pub invariant-loop-octet : goal.invariant-loop-octet
invariant-loop-octet l = place_after l.fn.self l.octets ≡ place_after l.place (drop l.octet-index l.octets)
