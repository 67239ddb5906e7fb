-- Which PDUs of an event `air` leaves out, as it counts them on from stream to stream.
use Rattle.std.specs.Prelude.{ℕ, ◌≡◌, ◌<◌, ◌+◌, ◌-◌, ◌%◌, ◌==◌, ◌&&◌, nat_lt, Bool, false, List, length, map, Option, None, if◌then◌else◌, slice_get, slice_index_or}
use Rattle.std.specs.List.{range_with_len}

-- of each `lose` PDUs the last one is lost; with 0 none is
abbrev pub lost_at : (lose number : ℕ) → Bool
lost_at lose number = nat_lt 0 lose && (number % lose == lose - 1)

-- behind `count` PDUs there are so many before the next one that is lost
abbrev pub CountsOn : (lose count before : ℕ) → Type 0
CountsOn lose count before = 0 < lose → before + count % lose + 1 ≡ lose

-- the PDUs of a stream that are lost, by subevent, where `count` PDUs came before the first of them
abbrev pub LosesFrom : (lose count subevents : ℕ) → List Bool → Type 0
LosesFrom lose count subevents lost = (s : ℕ) → s < subevents → slice_index_or lost s false ≡ lost_at lose (count + s)

-- what a sink hears of the PDUs that the subevents of a stream sent, of which some are lost
abbrev pub unlost : List (List ℕ) → List Bool → List (Option (List ℕ))
unlost sent lost = map (λ s. if slice_index_or lost s false then None else slice_get sent s) (range_with_len 0 (length sent))
