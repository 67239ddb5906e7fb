use Rattle.scenario_words.proofs.Prelude.{◌≡◌, ◌≤◌, ◌*◌, take, wishes_octets}
use Rattle.scenario_words.proofs.cursor.octets_of_wishes.Given as goal

abbrev pub invariant-wishes : goal.invariant-wishes
invariant-wishes l = record { counted : l.octets ≡ wishes_octets (take l.i l.wishes); few : l.octets ≤ 260 * l.i }
