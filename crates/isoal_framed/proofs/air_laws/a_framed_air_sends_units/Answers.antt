use Rattle.isoal_framed.proofs.Sends.{air_is_sent}
use Rattle.isoal_framed.proofs.air_laws.a_framed_air_sends_units.Goals as goal

pub returns : goal.returns
returns c group calls air framed fits is = air_is_sent group.info calls is.0 air (group.bounds.framed_pdu framed) fits is.1
