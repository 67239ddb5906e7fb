-- A stay on a stream: from the moment that a sink is synchronized to a BIG (Core 5.2, volume 6 part B, section 4.4.6), the PDUs
-- that it hears and the events that it closes. Lists of calls have the newest first.
use Rattle.std.specs.Prelude.{ℕ, ◌+◌, ◌*◌, ◌/◌, ◌≤◌, ◌≡◌, ◌==◌, nat_le, ◌&&◌, Bool, List, [], ◌∷◌, ◌++◌, map, Option, Some, None, if◌then◌else◌}
use Rattle.std.specs.List.{range_with_len}
use Rattle.std.specs.Option.{option_or}
use Rattle.big_info.specs.declared.info.BigInfo.{BigInfo}
use Rattle.big_info.specs.Schedule.{horizon_of}

pub record Stay : Type 0 where
  pub info : BigInfo
  pub bis : ℕ
  pub first : ℕ  -- the first event
  pub origin : ℕ  -- its anchor in µs
  pub delay : ℕ  -- Presentation_Delay in µs

pub data Call : Type 0 where
  hear : (number : ℕ) (octets : List ℕ) → Call  -- a PDU is heard under its payload number
  close : Call  -- the open event is closed

-- the open event: the first event and the number of closes
abbrev pub opened : Stay → List Call → ℕ
opened stay [] = stay.first
opened stay (hear number octets ∷ calls) = opened stay calls
opened stay (close ∷ calls) = opened stay calls + 1

-- the number belongs to the open event or to one of the H events after it
abbrev pub InWindow : Stay → ℕ → ℕ → Type 0
InWindow stay event number =
    (event ≤ number / stay.info.bn) × (number / stay.info.bn ≤ event + horizon_of stay.info)

abbrev pub is_in_window : Stay → ℕ → ℕ → Bool
is_in_window stay event number = nat_le event (number / stay.info.bn) && nat_le (number / stay.info.bn) (event + horizon_of stay.info)

-- what a call enters for a payload number while this event is open: what a PDU of that number and of the window is read as
abbrev pub entry_of : {A : Type 0} → (List ℕ → Option A) → Stay → ℕ → ℕ → Call → Option A
entry_of read stay event number close = None
entry_of read stay event number (hear heard_number octets) =
    if (heard_number == number) && is_in_window stay event number then read octets else None

-- Heard: what is kept of a payload number, the first entry for it
abbrev pub heard : {A : Type 0} → (List ℕ → Option A) → Stay → List Call → ℕ → Option A
heard read stay [] number = None
heard read stay (call ∷ calls) number = option_or (heard read stay calls number) (entry_of read stay (opened stay calls) number call)

-- after these calls a PDU of this number and these octets meets all conditions, and is read as this
pub record Enters {A : Type 0} (read : List ℕ → Option A) (stay : Stay) (number : ℕ) (part : A) (octets : List ℕ) (earlier : List Call) : Type 0 where
  pub window : InWindow stay (opened stay earlier) number
  pub reads : read octets ≡ Some part

-- no hear of the number in these calls meets all conditions
abbrev pub NoneEnters : {A : Type 0} → (List ℕ → Option A) → Stay → ℕ → List Call → Type 0
NoneEnters {A} read stay number calls =
    (later : List Call) → (octets : List ℕ) → (earlier : List Call) → (part : A) → calls ≡ later ++ hear number octets ∷ earlier
    → ¬ Enters read stay number part octets earlier

-- some hear of the number meets all conditions and is read as this part, and none before it does
pub record FirstHeard {A : Type 0} (read : List ℕ → Option A) (stay : Stay) (number : ℕ) (part : A) (calls : List Call) : Type 0 where
  pub later : List Call
  pub octets : List ℕ
  pub earlier : List Call
  pub is_split : calls ≡ later ++ hear number octets ∷ earlier
  pub enters : Enters read stay number part octets earlier
  pub none_before : NoneEnters read stay number earlier

-- how many numbers the window has
abbrev pub window_of : BigInfo → ℕ
window_of info = (horizon_of info + 1) * info.bn

-- a receiver with this open event and these entries, from the first number of that event on, stands for its calls
pub record StandsFor {A : Type 0} (read : List ℕ → Option A) (stay : Stay) (calls : List Call) (event : ℕ) (kept : List (Option A)) : Type 0 where
  pub event_is : event ≡ opened stay calls
  pub kept_is : kept ≡ map (heard read stay calls) (range_with_len (event * stay.info.bn) (window_of stay.info))
