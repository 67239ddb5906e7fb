-- The calls that a sender of an unframed stream took, the newest first, and what they say of its units (Core 5.2,
-- volume 6 part G, section 2.1: each unit takes a slot of its own, in the order of acceptance).
use Rattle.std.specs.Prelude.{ℕ, ◌+◌, min, zero, suc, List, [], ◌∷◌, ◌++◌, length}
use Rattle.big_info.specs.declared.info.BigInfo.{BigInfo}
use Rattle.big_info.specs.Schedule.{per_event_of}

pub data Call : Type 0 where
  accept : (octets : List ℕ) → Call
  lay : Call

abbrev pub accepted : List Call → List (List ℕ)
accepted [] = []
accepted (accept octets ∷ earlier) = accepted earlier ++ octets ∷ []
accepted (lay ∷ earlier) = accepted earlier

abbrev pub events : List Call → ℕ
events [] = 0
events (accept octets ∷ earlier) = events earlier
events (lay ∷ earlier) = suc (events earlier)

-- t: how many units have their slot
abbrev pub begun : BigInfo → List Call → ℕ
begun info [] = 0
begun info (accept octets ∷ earlier) = begun info earlier
begun info (lay ∷ earlier) = min (length (accepted earlier)) (begun info earlier + per_event_of info)

abbrev pub lays : ℕ → List Call → List Call
lays zero calls = calls
lays (suc count) calls = lay ∷ lays count calls
