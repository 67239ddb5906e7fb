-- The calls that an assistant took since it joined a server, the newest first (Broadcast Audio Scan Service 1.0, sections
-- 3.1 and 3.2): its writes to the control point, and what it is told of the slots.
use Rattle.std.specs.Prelude.{ℕ, suc, List, [], ◌∷◌, ◌++◌, drop, Option, Some, None}

pub data Call : Type 0 where
  limited : (mtu : ℕ) → Call  -- from now on a notice is cut to MTU - 3 octets
  put : (octets : List ℕ) → Call  -- a write is put behind those that wait
  sent : Call  -- the first write that waits is sent
  notified : (slot : ℕ) (value : List ℕ) → Call  -- a notice of a slot comes with this value
  all_asked : Call  -- a read of each slot is wanted
  asked : (slot : ℕ) → Call  -- the read of a slot that was wanted is made
  read : (slot : ℕ) (value : List ℕ) → Call  -- a read of a slot gives this value

-- the MTU of the link, once it is known
abbrev pub mtu_of : List Call → Option ℕ
mtu_of [] = None
mtu_of (limited mtu ∷ earlier) = Some mtu
mtu_of (call ∷ earlier) = mtu_of earlier

-- all writes, in order
abbrev pub writes_of : List Call → List (List ℕ)
writes_of [] = []
writes_of (put octets ∷ earlier) = writes_of earlier ++ octets ∷ []
writes_of (call ∷ earlier) = writes_of earlier

-- how many were sent
abbrev pub sent_of : List Call → ℕ
sent_of [] = 0
sent_of (sent ∷ earlier) = suc (sent_of earlier)
sent_of (call ∷ earlier) = sent_of earlier

-- the writes that wait, in order
abbrev pub waiting_of : List Call → List (List ℕ)
waiting_of calls = drop (sent_of calls) (writes_of calls)
