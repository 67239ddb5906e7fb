-- The calls that a sink took, the newest first, and the group that it is on (Core 5.2, volume 6 part B, section 4.4.6: a
-- synchronized receiver takes some of the streams of a group).
use Rattle.std.specs.Prelude.{ℕ, zero, suc, List, [], ◌∷◌, length, slice_index_or, Option, Some, None}
use Rattle.sync_reference.specs.BigSync.{BigSync}

pub data Call : Type 0 where
  tune : (big_sync : BigSync) → Call  -- the sink is synchronized to a BIG
  hear : (event bis subevent : ℕ) (octets : List ℕ) → Call  -- a PDU is heard in a subevent, from 0, of a stream
  tick : (event : ℕ) → Call  -- all events up to this one are over
  leave : Call  -- the sink leaves its group

-- the group that the sink is on: the last one that it was put on, where it didn't leave since
abbrev pub place : List Call → Option BigSync
place [] = None
place (tune big_sync ∷ calls) = Some big_sync
place (leave ∷ calls) = None
place (_ ∷ calls) = place calls

-- the PDUs that the subevents of an event of a stream bring are heard, from subevent 0 on; where one is lost there is none: those of so
-- many subevents, and all
abbrev pub heard_where : (event bis subevent : ℕ) → Option (List ℕ) → List Call → List Call
heard_where event bis subevent None calls = calls
heard_where event bis subevent (Some octets) calls = hear event bis subevent octets ∷ calls

abbrev pub heard_first : (event bis : ℕ) → List (Option (List ℕ)) → ℕ → List Call → List Call
heard_first event bis pdus zero calls = calls
heard_first event bis pdus (suc s) calls = heard_where event bis s (slice_index_or pdus s None) (heard_first event bis pdus s calls)

abbrev pub heard_calls : (event bis : ℕ) → List (Option (List ℕ)) → List Call → List Call
heard_calls event bis pdus calls = heard_first event bis pdus (length pdus) calls
