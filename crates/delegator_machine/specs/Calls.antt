-- The calls that a Scan Delegator took, the newest first: steps of its control half (Broadcast Audio Scan Service 1.0, section 3),
-- and what its receivers hear (Core 5.2, volume 6 part B, section 4.4.6).
use Rattle.std.specs.Prelude.{ℕ, zero, suc, List, [], ◌∷◌, length, slice_index_or, Option, Some, None}
use Rattle.delegator_history.specs.States.{Step}

pub data Call : Type 0 where
  control : (step : Step) → Call
  hear : (event bis subevent : ℕ) (octets : List ℕ) → Call  -- a PDU is heard in a subevent, from 0, of a stream
  tick : (event : ℕ) → Call  -- all events up to this one are over

-- the steps of the control half
abbrev pub steps_of : List Call → List Step
steps_of [] = []
steps_of (control step ∷ calls) = step ∷ steps_of calls
steps_of (hear event bis subevent octets ∷ calls) = steps_of calls
steps_of (tick event ∷ calls) = steps_of calls

-- the PDUs that the subevents of an event of a stream bring are heard, from subevent 0 on; where one is lost there is none: those of so
-- many subevents, and all
abbrev pub heard_where : (event bis subevent : ℕ) → Option (List ℕ) → List Call → List Call
heard_where event bis subevent None calls = calls
heard_where event bis subevent (Some octets) calls = hear event bis subevent octets ∷ calls

abbrev pub heard_first : (event bis : ℕ) → List (Option (List ℕ)) → ℕ → List Call → List Call
heard_first event bis pdus zero calls = calls
heard_first event bis pdus (suc s) calls = heard_where event bis s (slice_index_or pdus s None) (heard_first event bis pdus s calls)

abbrev pub heard_calls : (event bis : ℕ) → List (Option (List ℕ)) → List Call → List Call
heard_calls event bis pdus calls = heard_first event bis pdus (length pdus) calls
