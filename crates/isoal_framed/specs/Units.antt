-- The units of a framed stream (Core 5.2, volume 6 part G, section 2.2), from its tokens: of each start whether it is
-- valid, lost, or not decided yet. The run of a start is itself and the further segments up to the next start, the next
-- missing number or the end of the list.
use Rattle.std.specs.Prelude.{ℕ, ◌⊎◌, ◌≤◌, ◌<◌, ◌≡◌, nat_le, Bool, true, false, List, [], ◌∷◌, ◌++◌, length, Option, Some, None, if◌then◌else◌}
use Rattle.std.specs.List.{AllByRecursion, flat_map}
use Rattle.std.specs.Option.{option_or}
use Rattle.unit_outlets.specs.Handed.{Handed, valid, lost}
use Rattle.isoal_framed.specs.Tokens.{Token, starts, goes_on, missing}

pub record Piece : Type 0 where
  pub complete : Bool
  pub octets : List ℕ

-- the further segments in front of the next start, missing number or end
abbrev pub run_on : List Token → List Piece
run_on (goes_on complete octets ∷ tokens) = record { complete = complete; octets = octets } ∷ run_on tokens
run_on _ = []

-- a start or a missing number follows them
abbrev pub is_followed : List Token → Bool
is_followed [] = false
is_followed (goes_on complete octets ∷ tokens) = is_followed tokens
is_followed (_ ∷ tokens) = true

-- what becomes of a start; the undecided one with the octets of its run
pub data Fate : Type 0 where
  whole : (octets : List ℕ) → Fate
  broken : Fate
  undecided : (octets : List ℕ) → Fate

abbrev pub NoneComplete : List Piece → Type 0
NoneComplete run = AllByRecursion (λ piece. piece.complete ≡ false) run

abbrev pub joined : List Piece → List ℕ
joined run = flat_map (λ piece. piece.octets) run

-- some token of the run is complete, and the octets up to the first such token are these, at most so many
pub record IsWhole (max_sdu : ℕ) (run : List Piece) (octets : List ℕ) : Type 0 where
  pub before : List Piece
  pub last : List ℕ
  pub others : List Piece
  pub run_is : run ≡ before ++ record { complete = true; octets = last } ∷ others
  pub first : NoneComplete before
  pub octets_are : octets ≡ joined before ++ last
  pub fits : length octets ≤ max_sdu

-- a prefix of the run, in which no token but perhaps the last is complete, has too many octets
pub record IsTooLong (max_sdu : ℕ) (run : List Piece) : Type 0 where
  pub before : List Piece
  pub last : Piece
  pub others : List Piece
  pub run_is : run ≡ before ++ last ∷ others
  pub first : NoneComplete before
  pub passes : max_sdu < length (joined before ++ last.octets)

-- no token of the run is complete, and a start or a missing number follows it
abbrev pub IsCut : List Piece → Bool → Type 0
IsCut run followed = NoneComplete run × (followed ≡ true)

abbrev pub FateIs : ℕ → List Piece → Bool → Fate → Type 0
FateIs max_sdu run followed (whole octets) = IsWhole max_sdu run octets
FateIs max_sdu run followed broken = IsTooLong max_sdu run ⊎ IsCut run followed
FateIs max_sdu run followed (undecided octets) =
    ((unit : List ℕ) → ¬ IsWhole max_sdu run unit) × (¬ IsTooLong max_sdu run) × (¬ IsCut run followed) × (octets ≡ joined run)

-- the same from left to right, behind a prefix that is read already
abbrev pub fate_after : ℕ → List ℕ → List Piece → Bool → Fate
fate_after max_sdu prefix [] followed = if followed then broken else undecided prefix
fate_after max_sdu prefix (piece ∷ run) followed = if nat_le (length (prefix ++ piece.octets)) max_sdu then
    (if piece.complete then whole (prefix ++ piece.octets) else fate_after max_sdu (prefix ++ piece.octets) run followed) else broken

abbrev pub fate_of : ℕ → List Piece → Bool → Fate
fate_of max_sdu run followed = fate_after max_sdu [] run followed

abbrev pub fate_at : ℕ → Bool → List ℕ → List Token → Fate
fate_at max_sdu complete octets tokens =
    fate_of max_sdu (record { complete = complete; octets = octets } ∷ run_on tokens) (is_followed tokens)

abbrev pub handed_of : ℕ → ℕ → Fate → List Handed
handed_of bis time (whole octets) = valid bis time octets ∷ []
handed_of bis time broken = lost bis time ∷ []
handed_of bis time (undecided octets) = []

-- UnitsF: the decided starts, in order
abbrev pub units : ℕ → ℕ → List Token → List Handed
units max_sdu bis [] = []
units max_sdu bis (starts time complete octets ∷ tokens) =
    handed_of bis time (fate_at max_sdu complete octets tokens) ++ units max_sdu bis tokens
units max_sdu bis (_ ∷ tokens) = units max_sdu bis tokens

-- a start that is not decided: its time, and the octets of its run
pub record Run : Type 0 where
  pub time : ℕ
  pub octets : List ℕ

abbrev pub run_of : ℕ → Fate → Option Run
run_of time (whole octets) = None
run_of time broken = None
run_of time (undecided octets) = Some (record { time = time; octets = octets })

-- the start that is not decided, where there is one
abbrev pub undecided_run : ℕ → List Token → Option Run
undecided_run max_sdu [] = None
undecided_run max_sdu (starts time complete octets ∷ tokens) =
    option_or (run_of time (fate_at max_sdu complete octets tokens)) (undecided_run max_sdu tokens)
undecided_run max_sdu (goes_on complete octets ∷ tokens) = undecided_run max_sdu tokens
undecided_run max_sdu (missing ∷ tokens) = undecided_run max_sdu tokens
