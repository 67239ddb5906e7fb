-- What stands between the closes of two sinks, as an event of source 0 is closed for one after the other. Relays are this project's own; the
-- units are SDUs of Core 5.2, volume 6 part G, section 1.
use Rattle.std.specs.Prelude.{ℕ, ◌≡◌, ◌++◌, nat_lt, List, Some, if◌then◌else◌}
use Rattle.unit_outlets.specs.Account.{Account}
use Rattle.source_machine.specs.Airs.{airs_of}
use Rattle.scenario_text.specs.declared.step.Step.{Step}
use Rattle.scenario_history.specs.Boxes.{accounts_after}
use Rattle.scenario_history.specs.RelayedUnits.{after_offers}
use Rattle.scenario_history.specs.Sinks.{is_of, ticked_if}
use Rattle.scenario_sinks.specs.Histories.{Histories}
use Rattle.replay_steps.specs.declared.machine.Machine.{Machine}
use Rattle.replay_steps.specs.Relaying.{ComponentsStand, lines_below, offers_below, units_below}

-- the sinks below a number closed an event of source 0, where they are of it
abbrev pub with_closes_below : (event number : ℕ) → Histories → Histories
with_closes_below event number past = record {
  boxes = past.boxes;
  mades = past.mades;
  sources = past.sources;
  lives = past.lives;
  received = λ n. if nat_lt n number then ticked_if (is_of 0 (past.sources n)) (Some event) (past.received n) else past.received n;
  made = past.made;
}

-- the sinks below a number closed an event of source 0, and their relays offered what they handed up
pub record FirstBetween (steps : List Step) (past : Histories) (event number : ℕ) (machine : Machine) (text told : List ℕ) (before after : List Account) : Type 0 where
  pub components : ComponentsStand (after_offers airs_of (offers_below steps past event number) steps) (with_closes_below event number past) machine
  pub lines : told ≡ text ++ lines_below steps past event number
  pub boxes : after ≡ accounts_after before (units_below past event number)
