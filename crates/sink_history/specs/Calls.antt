-- The calls of a sink and of the assistants on its links (Basic Audio Profile 1.0, section 6.5; Broadcast Audio Scan Service
-- 1.0, section 3). Lists of calls have the newest first, what waits has the oldest first. Links and slots count from 0. Link 0
-- is joined from the start.
use Rattle.std.specs.Prelude.{ℕ, ◌+◌, ◌==◌, min, Bool, true, false, List, [], ◌∷◌, ◌++◌, length, drop, slice_get, Option, Some, None, option_map, unwrap_or, if◌then◌else◌}
use Rattle.delegator_history.specs.LastGiven.{last_given}
use Rattle.delegator_history.specs.States.{Step, mtu_set, written}

pub data Call : Type 0 where
  stepped : (step : Step) → Call  -- a call of the delegator, but a write that waited on a link
  joined : (link : ℕ) → Call  -- an assistant joins the link
  parted : (link : ℕ) → Call  -- it leaves the link
  asked : (link : ℕ) (octets : List ℕ) → Call  -- it puts a write behind those that wait
  served : (link : ℕ) → Call  -- the first of its writes that wait is served
  notified : (link : ℕ) → Call  -- the first notice that waits for it is delivered
  read : (link : ℕ) → Call  -- of its reads that wait the one of the lowest slot is served
  forged : (slot : ℕ) (octets : List ℕ) → Call  -- over link 0 a notice comes that the delegator did not send

abbrev pub born : Option ℕ → List Call
born None = []
born (Some mtu) = stepped (mtu_set mtu) ∷ []

-- ---- who is there

abbrev pub joining_by : ℕ → Call → Option Bool
joining_by link (joined at) = if at == link then Some true else None
joining_by link (parted at) = if at == link then Some false else None
joining_by link _ = None

-- an assistant is on the link: it joined last, and did not part since
abbrev pub is_joined : ℕ → List Call → Bool
is_joined link calls = unwrap_or (last_given (joining_by link) calls) (link == 0)

-- ---- the writes of a link

-- the writes of a link since it was joined
abbrev pub writes : ℕ → List Call → List (List ℕ)
writes link [] = []
writes link (joined at ∷ earlier) = if at == link then [] else writes link earlier
writes link (asked at octets ∷ earlier) = if at == link then writes link earlier ++ octets ∷ [] else writes link earlier
writes link (_ ∷ earlier) = writes link earlier

-- how many of them were served: each time that one was to be, while there were any
abbrev pub served_of : ℕ → List Call → ℕ
served_of link [] = 0
served_of link (joined at ∷ earlier) = if at == link then 0 else served_of link earlier
served_of link (served at ∷ earlier) = if at == link then min (served_of link earlier + 1) (length (writes link earlier)) else served_of link earlier
served_of link (_ ∷ earlier) = served_of link earlier

abbrev pub writes_waiting : ℕ → List Call → List (List ℕ)
writes_waiting link calls = drop (served_of link calls) (writes link calls)

-- ---- the steps of the delegator

-- a write of any link is one, where one waits
abbrev pub step_by : Call → List Call → Option Step
step_by (stepped step) earlier = Some step
step_by (served link) earlier = option_map written (slice_get (writes_waiting link earlier) 0)
step_by _ earlier = None

abbrev pub with_step : Option Step → List Step → List Step
with_step None steps = steps
with_step (Some step) steps = step ∷ steps

abbrev pub steps_of : List Call → List Step
steps_of [] = []
steps_of (call ∷ earlier) = with_step (step_by call earlier) (steps_of earlier)
