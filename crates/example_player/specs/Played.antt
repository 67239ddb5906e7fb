-- What a player keeps, as what its receiver handed up (the SDUs of Core 5.2, volume 6 part G, section 2.2).
use Rattle.std.specs.Prelude.{ℕ, ◌≡◌, List, map, take, Option, Some, None}
use Rattle.unit_outlets.specs.Handed.{Handed, valid, lost, Counts}
use Rattle.isoal_base.specs.Stays.{Stay, Call}
use Rattle.isoal_framed.specs.Histories.{decided}
use Rattle.isoal_framed.specs.State.Windows.{Stands}
use Rattle.example_player.specs.declared.player.Player.{Player}
use Rattle.example_player.specs.declared.playlist.Playlist.{Playlist}

abbrev pub handed_as : ℕ → ℕ → Option (List ℕ) → Handed
handed_as bis time (Some octets) = valid bis time octets
handed_as bis time None = lost bis time

-- the entries of a list
abbrev pub handed_by : Playlist → List Handed
handed_by playlist = map (λ entry. handed_as entry.bis entry.time entry.octets) playlist.entries.items

-- a list fails by want of memory alone
abbrev pub counts_of : Playlist → Counts
counts_of playlist = record { faults = 0; wants = playlist.wants }

-- the open event of a player, and what it has
abbrev pub open_event_of : Player → ℕ
open_event_of player = player.receiver.event

abbrev pub played_by : Player → List Handed
played_by player = handed_by player.playlist

-- a player on this stay, after these calls: it has what the closed events decide
pub record Plays (stay : Stay) (calls : List Call) (player : Player) : Type 0 where
  pub stay_is : player.receiver.stay ≡ stay
  pub stands : Stands calls player.receiver
  pub played : played_by player ≡ decided stay calls

-- the same, but for units at the end that found no memory
pub record PlayedPrefix (stay : Stay) (calls : List Call) (player : Player) : Type 0 where
  pub stay_is : player.receiver.stay ≡ stay
  pub stands : Stands calls player.receiver
  pub count : ℕ
  pub played : played_by player ≡ take count (decided stay calls)
