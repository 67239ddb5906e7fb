-- The source that a line means, as a sink meets it (Basic Audio Profile 1.0, section 3.7.2).
use Rattle.std.specs.Prelude.{◌≡◌}
use Rattle.sink_history.specs.History.{Source}
use Rattle.scenario_sink.specs.declared.origin.Origin.{Origin}

-- it has this number, this address type and this SID
pub record IsFrom (origin : Origin) (source : Source) : Type 0 where
  pub number_is : source.number ≡ origin.number
  pub address_type_is : source.address_type ≡ origin.address_type
  pub sid_is : source.sid ≡ origin.sid
