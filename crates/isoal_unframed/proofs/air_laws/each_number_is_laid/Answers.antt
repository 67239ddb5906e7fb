use Rattle.isoal_unframed.proofs.Events.{air_length, laid_at_place, laid_stays, number_laid, number_not_laid}
use Rattle.isoal_unframed.proofs.air_laws.each_number_is_laid.Goals as goal

pub returns-clause-laid : goal.returns-clause-laid
returns-clause-laid c = λ group calls number below. number_laid group.info calls number group.bounds.bn below

pub returns-clause-others : goal.returns-clause-others
returns-clause-others c = λ info calls number past. number_not_laid info calls number past

pub returns-clause-stays : goal.returns-clause-stays
returns-clause-stays c = λ info call calls number below. laid_stays info call calls number below

pub returns-clause-entries : goal.returns-clause-entries
returns-clause-entries c = λ info calls. air_length info calls

pub returns-clause-places : goal.returns-clause-places
returns-clause-places c = λ group calls event slot r unframed slot_below r_below. laid_at_place group.info calls event slot r (group.bounds.whole_slots unframed) slot_below r_below
