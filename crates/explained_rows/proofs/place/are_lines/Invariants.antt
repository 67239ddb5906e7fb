use Rattle.explained_rows.proofs.Prelude.{◌≡◌, ◌++◌, drop, take, Start, lines_told}
use Rattle.explained_rows.proofs.place.are_lines.Given as goal

abbrev pub invariant-loop-octet : goal.invariant-loop-octet
invariant-loop-octet l = lines_told Start l.octets ≡ take l.octet-index l.octets ++ lines_told l.place (drop l.octet-index l.octets)
