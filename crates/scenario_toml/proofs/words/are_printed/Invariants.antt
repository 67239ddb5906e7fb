use Rattle.scenario_toml.proofs.Prelude.{◌≡◌, drop, is_printed, list_all}
use Rattle.scenario_toml.proofs.words.are_printed.Given as goal

abbrev pub invariant-octets : goal.invariant-octets
invariant-octets l = list_all is_printed (drop l.octet-index l.octets) ≡ list_all is_printed l.octets
