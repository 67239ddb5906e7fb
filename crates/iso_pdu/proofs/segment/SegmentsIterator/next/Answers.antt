use Rattle.iso_pdu.proofs.Prelude.{length, arith, parts_in}
use Rattle.iso_pdu.proofs.PartsRead.{first_of_sound, parts_in-nothing}
use Rattle.iso_pdu.proofs.segment.SegmentsIterator.next.Goals as goal

pub returns-then-is_empty-clause-steps : goal.returns-then-is_empty-clause-steps
returns-then-is_empty-clause-steps c = grind (arith, length, parts_in, parts_in-nothing)

pub split_segment-requires-clause-header : goal.split_segment-requires-clause-header
split_segment-requires-clause-header c = grind (arith, length, first_of_sound)

pub split_segment-requires-clause-whole : goal.split_segment-requires-clause-whole
split_segment-requires-clause-whole c = grind (arith, length, first_of_sound)

pub invariant_of-self : goal.invariant_of-self
invariant_of-self c = grind (arith, length, first_of_sound)

pub returns-clause-steps : goal.returns-clause-steps
returns-clause-steps c = grind (arith, length, first_of_sound)

pub returns-clause-goes : goal.returns-clause-goes
returns-clause-goes c = grind (arith, length, returns-clause-steps)
