use Rattle.scenario_toml.proofs.Prelude.{◌≡◌, ◌==◌, drop, list_any}
use Rattle.bcast_io.specs.TextLines.{newline}
use Rattle.scenario_toml.proofs.rows.ends_a_line.Given as goal

abbrev pub invariant-octets : goal.invariant-octets
invariant-octets l = list_any (λ octet. octet == newline) (drop l.octet-index l.octets) ≡ list_any (λ octet. octet == newline) l.octets
