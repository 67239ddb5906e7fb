use Rattle.scenario_words.proofs.Prelude.{◌≡◌, ◌-◌, ◌≤◌, ◌*◌, ◌+◌, take, encode_lower}
use Rattle.scenario_words.proofs.printed_octets.write_digits.Given as goal

abbrev pub invariant-octets : goal.invariant-octets
invariant-octets l = (take (2 * l.i) l.digits ≡ encode_lower (take l.i l.octets)) × (l.i ≤ l.last + 15)

abbrev pub decreases-octets : goal.decreases-octets
decreases-octets l = l.last - l.i
