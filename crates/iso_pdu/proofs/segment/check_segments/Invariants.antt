use Rattle.iso_pdu.proofs.Prelude.{◌≡◌, ◌≤◌, ◌-◌, length, drop, result_err, parts_of}
use Rattle.iso_pdu.specs.Reading.{parts_from}
use Rattle.iso_pdu.proofs.segment.check_segments.Given as goal

abbrev pub invariant-segments : goal.invariant-segments
invariant-segments l =
    (l.place ≤ length l.payload) × (result_err (parts_from l.place 0 (drop l.place l.payload)) ≡ result_err (parts_of l.payload))

abbrev pub decreases-segments : goal.decreases-segments
decreases-segments l = length l.payload - l.place
