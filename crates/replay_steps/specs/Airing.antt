-- What the sinks of a scenario hear of the air of the chosen source (Core 5.2, volume 6 part B, section 4.4.6).
use Rattle.std.specs.Prelude.{ℕ, ◌≡◌, ◌<◌, not, true, is_some, List, Some, Result, Ok, Err, if◌then◌else◌}
use Rattle.std.specs.Option.{option_or}
use Rattle.source_machine.specs.Airs.{airs_of}
use Rattle.transcript_text.specs.declared.refusal.Refusal.TheVariants.{Order}
use Rattle.transcript_text.specs.declared.stop.Stop.{Stop}
use Rattle.transcript_text.specs.declared.stop.Stop.TheVariants.{Refused, OutletFault, Memory}
use Rattle.scenario_text.specs.declared.step.Step.{Step}
use Rattle.scenario_history.specs.Steps.{chosen_steps, sinks_made}
use Rattle.scenario_history.specs.Source.{event_back, is_heard, performed, setup_of}
use Rattle.scenario_history.specs.Sinks.{heard_on_air, reaches, sink_calls, source_of}
use Rattle.scenario_history.specs.Boxes.{box_of}
use Rattle.scenario_history.specs.Worlds.{calls_made}
use Rattle.sink_history.specs.History.{made_of}
use Rattle.scenario_history.specs.Refusals.{no_sink}
use Rattle.sink_history.specs.Refusals.{refuse_if}
use Rattle.scenario_sinks.specs.Histories.{Histories}
use Rattle.radio_schedule.specs.declared.losses.Grid.{Grid}

-- a PDU of the chosen source may be handed to a sink: the source was started, its events have this grid, and the sink lives
abbrev pub Reaches : List Step → ℕ → Result Grid Stop → Type 0
Reaches steps sink (Ok grid) =
    (is_heard (chosen_steps steps) ≡ true)
    × ((grid.streams ≡ (setup_of (chosen_steps steps)).info.num_bis) × (grid.subevents ≡ (setup_of (chosen_steps steps)).info.nse))
    × (is_some (box_of sink steps) ≡ true)
Reaches steps sink (Err (Refused reason)) =
    option_or (refuse_if (not (is_heard (chosen_steps steps))) Order) (no_sink sink steps) ≡ Some reason
Reaches steps sink (Err OutletFault) = ⊥
Reaches steps sink (Err Memory) = ⊥

-- a sink heard the PDUs of the first `count` positions of the last event of the chosen source but those that are lost
abbrev pub histories_on_air : List Step → ℕ → ℕ → ℕ → Histories
histories_on_air steps sink lose count = record {
  boxes = λ n. box_of n steps;
  mades = λ n. made_of n steps;
  sources = λ n. source_of n steps;
  lives = λ n. calls_made n steps;
  received = λ n. if reaches sink n steps then heard_on_air airs_of (chosen_steps steps) lose count (sink_calls airs_of n steps) else sink_calls airs_of n steps;
  made = sinks_made steps;
}

-- the chosen source was started, its group has so many streams and subevents, and this is the last event that it performed
pub record OnAir (steps : List Step) (sink event streams subevents : ℕ) : Type 0 where
  pub started : is_heard (chosen_steps steps) ≡ true
  pub streams_are : streams ≡ (setup_of (chosen_steps steps)).info.num_bis
  pub subevents_are : subevents ≡ (setup_of (chosen_steps steps)).info.nse
  pub lives : is_some (box_of sink steps) ≡ true
  pub some : 0 < performed (chosen_steps steps)
  pub event_is : event ≡ event_back (chosen_steps steps) 0
