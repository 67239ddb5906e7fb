use Rattle.isoal_unframed.proofs.SlotSteps.{fragments_fit, slot_carries}
use Rattle.isoal_unframed.proofs.air_laws.a_slot_carries_its_unit.Goals as goal

pub returns-clause-places : goal.returns-clause-places
returns-clause-places c = λ group unit fits. fragments_fit group.info.max_pdu group.info.max_sdu unit group.bounds.max_pdu_least group.bounds.max_sdu fits

pub returns-clause-octets : goal.returns-clause-octets
returns-clause-octets c = λ max_pdu count unit some enough. slot_carries max_pdu count unit some enough
