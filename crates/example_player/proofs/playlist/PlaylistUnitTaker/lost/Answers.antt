use Rattle.example_player.proofs.playlist.PlaylistUnitTaker.lost.Goals as goal

pub returns-in-Ok : goal.returns-in-Ok
returns-in-Ok c = record { ok = c.in-Ok.ensures.ok; err = tt; cause = cc }
