-- The lines of the generator that say their steps in each version.
use Rattle.scenario_lines.proofs.Prelude.{ℕ, zero, suc, ◌<◌, ◌≤◌, ◌%◌, None, length, refl, arith, codes, ◌▸◌, Unit, Event, Air, LineIs, unit_row, event_row, air_row, nil_octets, cons_octets, unit_of, replicate, length-replicate, IsOctets}
use Rattle.scenario_text.specs.Table.{row_of}
use Rattle.scenario_lines.specs.Generated.{unit_line, air_line}
use Rattle.scenario_lines.proofs.Said.{row_says}

same_octets : (n v : ℕ) → v < 256 → IsOctets (replicate n v)
same_octets zero v small = nil_octets
same_octets (suc n) v small = cons_octets v (replicate n v) small (same_octets n v small)

pub unit_fits : (x : ℕ) → length (unit_of x) ≤ 4095
unit_fits x = omega (arith, length-replicate 100 (x % 256))

pub unit_says : (bis x version : ℕ) → 1 ≤ bis → bis ≤ 31 → LineIs version (Unit bis None (unit_of x)) (unit_line bis x)
unfolding row_of unit_line
unit_says bis x version least greatest =
    row_says version unit_row (bis ▸ None ▸ unit_of x ▸ tt) refl refl
    ((least, greatest), (tt, ((unit_fits x, same_octets 100 (x % 256) (omega arith)), tt)))

pub event_says : (version : ℕ) → LineIs version Event (codes "event")
unfolding row_of
event_says version = row_says version event_row tt refl refl tt

pub air_says : (sink lose version : ℕ) → sink ≤ 7 → lose ≤ 255 → LineIs version (Air sink lose) (air_line sink lose)
unfolding row_of air_line
air_says sink lose version known small = row_says version air_row (sink ▸ lose ▸ tt) refl refl ((omega arith, known), ((omega arith, small), tt))
