-- A new player stands for no calls; after want of memory what it has is a prefix of what is decided.
use Rattle.std.proofs.Common.{◌≡◌, ◌+◌, ◌-◌, ℕ, List, [], ◌∷◌, ◌++◌, length, take, replicate, None, sym, ap, ◌∙◌, subst, arith}
use Rattle.std.proofs.Math.Seq.{take-append-add}
use Rattle.std.specs.List.{flat_map, range_with_len}
use Rattle.unit_outlets.specs.Handed.{Handed}
use Rattle.isoal_base.specs.Stays.{Stay, Call, close, window_of}
use Rattle.isoal_framed.specs.Histories.{decided, event_tokens, gained}
use Rattle.isoal_framed.specs.Units.{units}
use Rattle.isoal_framed.specs.State.Windows.{Window, Stands}
use Rattle.isoal_framed.proofs.Citable.{new_stands}
use Rattle.example_player.specs.declared.player.Player.{Player}
use Rattle.example_player.specs.declared.playlist.Playlist.{Playlist}
use Rattle.example_player.specs.Played.{PlayedPrefix, Plays, handed_by}

nothing_decided : (stay : Stay) → decided stay [] ≡ []
nothing_decided stay =
    let none : stay.first - stay.first ≡ 0 = omega arith in
    ap (λ n. units stay.info.max_sdu stay.bis (flat_map (event_tokens stay []) (range_with_len stay.first n))) none

pub plays_nothing : (stay : Stay) (window : Window) (playlist : Playlist)
    → window ≡ record { stay = stay; event = stay.first; kept = replicate (window_of stay.info) None; run = None }
    → handed_by playlist ≡ [] → Plays stay [] (record { receiver = window; playlist = playlist })
plays_nothing stay window playlist is none =
    let OnNothing : Window → Type 0 = λ at. Stands [] at in
    record {
      stay_is = ap (λ (at : Window). at.stay) is;
      stands = subst OnNothing (sym is) (new_stands stay);
      played = none ∙ sym (nothing_decided stay);
    }

-- the list after a close that kept so many of the units owed
pub prefix_kept : (stay : Stay) (calls : List Call) (n : ℕ) (before : List Handed) → before ≡ decided stay calls
    → decided stay (close ∷ calls) ≡ decided stay calls ++ gained stay calls
    → before ++ take n (gained stay calls) ≡ take (length before + n) (decided stay (close ∷ calls))
prefix_kept stay calls n before played gains =
    sym (ap (λ all. take (length before + n) all) (gains ∙ ap (λ prefix. prefix ++ gained stay calls) (sym played))
    ∙ take-append-add before (gained stay calls) n)

pub plays_prefix : (stay : Stay) (calls : List Call) (player : Player) (window : Window) (playlist : Playlist) (n : ℕ)
    → Plays stay calls player → Stands (close ∷ calls) window → window.stay ≡ player.receiver.stay
    → handed_by playlist ≡ handed_by player.playlist ++ take n (gained stay calls)
    → decided stay (close ∷ calls) ≡ decided stay calls ++ gained stay calls
    → PlayedPrefix stay (close ∷ calls) (record { receiver = window; playlist = playlist })
plays_prefix stay calls player window playlist n plays stands same kept gains = record {
  stay_is = same ∙ plays.stay_is;
  stands = stands;
  count = length (handed_by player.playlist) + n;
  played = kept ∙ prefix_kept stay calls n (handed_by player.playlist) plays.played gains;
}
