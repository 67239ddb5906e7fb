-- What a run of a text promises that a listener goes along with. Listeners are this project's own.
use Rattle.std.specs.Prelude.{◌≡◌, ◌≢◌, Bool, false, true}
use Rattle.bcast_base.specs.Counts.{Rose}
use Rattle.replay_lines.specs.Promised.{Promised}
use Rattle.replay_lines.specs.World.{World}
use Rattle.replay_lines.specs.declared.ending.Ending.{Ending}
use Rattle.replay_lines.specs.declared.ending.Ending.TheVariants as endings

-- What an ending says of the octets that were written, beside a listener that may fail (`true`) or may not. A write fault may be the
-- listener's then, and says no more of them than want of memory does.
abbrev pub as_told : Bool → Ending → Ending
as_told false ending = ending
as_told true endings.WriteFault = endings.Memory
as_told true ending = ending

-- What a run promises beside a listener that may fail. A write fault may be the listener's: of the octets that were written then,
-- and of the boxes, holds what holds where memory runs out.
pub record Heard (old new : World) (ending : Ending) : Type 0 where
  pub run : Promised old (record { left = new.left; reads = new.reads; taken = new.taken; writes = old.writes; boxes = new.boxes })
      (as_told true ending)
  -- WriteFault comes where the sink counted a fault, and with each other ending its count stays.
  pub write_fault : ending ≡ endings.WriteFault → Rose old.writes new.writes
  pub no_write_fault : ending ≢ endings.WriteFault → new.writes ≡ old.writes
