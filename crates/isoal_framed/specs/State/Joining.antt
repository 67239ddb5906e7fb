-- The tokens one by one: what each hands, and the run that isn't decided behind it.
use Rattle.std.specs.Prelude.{ℕ, nat_le, Bool, List, [], ◌∷◌, ◌++◌, length, Option, Some, None, if◌then◌else◌}
use Rattle.unit_outlets.specs.Handed.{Handed, valid, lost}
use Rattle.isoal_framed.specs.Tokens.{Token, starts, goes_on, missing}
use Rattle.isoal_framed.specs.Units.{Run}

-- a start whose run has these octets so far, of which the last token has this flag
abbrev pub hands_joined : ℕ → ℕ → ℕ → Bool → List ℕ → List Handed
hands_joined max_sdu bis time complete octets =
    if nat_le (length octets) max_sdu then (if complete then valid bis time octets ∷ [] else []) else lost bis time ∷ []

abbrev pub run_joined : ℕ → ℕ → Bool → List ℕ → Option Run
run_joined max_sdu time complete octets =
    if nat_le (length octets) max_sdu then (if complete then None else Some (record { time = time; octets = octets })) else None

-- what a token hands that follows this run
abbrev pub hands_at : ℕ → ℕ → Option Run → Token → List Handed
hands_at max_sdu bis None missing = []
hands_at max_sdu bis (Some run) missing = lost bis run.time ∷ []
hands_at max_sdu bis None (goes_on complete octets) = []
hands_at max_sdu bis (Some run) (goes_on complete octets) = hands_joined max_sdu bis run.time complete (run.octets ++ octets)
hands_at max_sdu bis None (starts time complete octets) = hands_joined max_sdu bis time complete octets
hands_at max_sdu bis (Some run) (starts time complete octets) = lost bis run.time ∷ hands_joined max_sdu bis time complete octets

abbrev pub run_at : ℕ → Option Run → Token → Option Run
run_at max_sdu run missing = None
run_at max_sdu None (goes_on complete octets) = None
run_at max_sdu (Some run) (goes_on complete octets) = run_joined max_sdu run.time complete (run.octets ++ octets)
run_at max_sdu run (starts time complete octets) = run_joined max_sdu time complete octets

-- the same of several tokens
abbrev pub hands : ℕ → ℕ → Option Run → List Token → List Handed
hands max_sdu bis run [] = []
hands max_sdu bis run (token ∷ tokens) = hands_at max_sdu bis run token ++ hands max_sdu bis (run_at max_sdu run token) tokens

abbrev pub run_after : ℕ → Option Run → List Token → Option Run
run_after max_sdu run [] = run
run_after max_sdu run (token ∷ tokens) = run_after max_sdu (run_at max_sdu run token) tokens
