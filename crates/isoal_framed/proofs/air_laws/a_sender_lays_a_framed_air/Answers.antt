use Rattle.isoal_framed.proofs.air_laws.a_sender_lays_a_framed_air.Goals as goal

pub returns : goal.returns
returns c info calls air sender stands = (stands.acts, stands.air_is)
