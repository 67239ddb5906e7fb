-- The isolation law: with two sources and many sinks, what a sink makes of one source is what it makes of that source alone (the
-- sink is after Basic Audio Profile 1.0, section 6.5, its links after Broadcast Audio Scan Service 1.0, section 3.2). Lists of steps
-- have the newest first; lists of units and of octets have the oldest first.
use Rattle.std.specs.Prelude.{ℕ, ◌≡◌, ◌≢◌, ◌==◌, ◌&&◌, Bool, false, List, [], ◌∷◌, ◌++◌, map, Some, if◌then◌else◌}
use Rattle.std.specs.List.{filter, flat_map}
use Rattle.bcast_io.specs.TextLines.{TextLine}
use Rattle.unit_outlets.specs.Account.{Account}
use Rattle.unit_outlets.specs.Handed.{Handed}
use Rattle.scenario_history.specs.Runs.{Accepted}
use Rattle.sink_history.specs.Calls.{Call, is_joined, writes_waiting}
use Rattle.sink_history.specs.Links.{notices_waiting, read_waits, state, view}
use Rattle.scenario_text.specs.declared.step.Step.{Step}
use Rattle.scenario_text.specs.declared.step.Step.TheVariants.{Tuned, Event, Announce, Train, Drop, Stop, Terminate, End}
use Rattle.delegator_history.specs.Trains.{Settings}
use Rattle.sink_history.specs.History.{made_of}
use Rattle.sink_history.specs.Moves.{follows_by, train_by}
use Rattle.sink_history.specs.Output.{replied, snapshot_in}
use Rattle.transcript_text.specs.Lines.{control_line, handed_line}
use Rattle.scenario_history.specs.Airs.{MeetAirs}
use Rattle.scenario_history.specs.Boxes.{SinkUnit, box_of, closing, closing_both, handed_up, valid_for}
use Rattle.scenario_history.specs.Lines.{rules_of, said_of, steps_of}
use Rattle.scenario_history.specs.Output.{output_of, stale_lines}
use Rattle.scenario_history.specs.Relays.{has_relay}
use Rattle.scenario_history.specs.Sinks.{sink_calls, source_of}
use Rattle.scenario_history.specs.Source.{end_pdu, stale_in}
use Rattle.source_machine.specs.Airs.{Airs}
use Rattle.scenario_history.specs.Steps.{chosen_of, chosen_steps}
use Rattle.scenario_history.specs.Worlds.{calls_made, source_at}
use Rattle.scenario_laws.specs.Only.{is_kept, only}

-- ---- what the law needs

-- sink `n` follows the train that a step after these hands it: it answers none of NoBroadcastId, NotWanted, OtherTrain, AlreadyOnGroup
abbrev pub is_followed : ℕ → List Step → Step → Bool
is_followed n earlier step = follows_by (source_at earlier) (train_by (source_at earlier) step) (made_of n earlier) (calls_made n earlier)

-- the step after these synchronizes sink `n` to a train or a BIG: `tuned`, or an `announce` or a `train` whose train it follows
abbrev pub puts : ℕ → List Step → Step → Bool
puts n earlier (Tuned sink which) = sink == n
puts n earlier (Announce sink) = (sink == n) && is_followed n earlier (Announce sink)
puts n earlier (Train sink time ext adv acad) = (sink == n) && is_followed n earlier (Train sink time ext adv acad)
puts n earlier _ = false

-- no step that was made while another source than `s` was chosen synchronizes sink `n` to a train or a BIG
abbrev pub NoOtherPuts : ℕ → ℕ → List Step → Type 0
NoOtherPuts s n [] = Unit {0}
NoOtherPuts s n (step ∷ earlier) = NoOtherPuts s n earlier × (chosen_of earlier ≢ s → puts n earlier step ≡ false)

-- ---- what is handed up and printed

abbrev pub units_by : ℕ → List SinkUnit → List Handed
units_by n units = map (λ unit. unit.unit) (filter (λ unit. unit.sink == n) units)

abbrev pub unit_lines_by : ℕ → List SinkUnit → List ℕ
unit_lines_by n units = flat_map (handed_line n) (units_by n units)

-- what a step after these prints without the units of other sinks, and without the sums, which begin with what a box had before
abbrev pub lines_by : Airs → ℕ → List Step → Step → List ℕ
lines_by airs n earlier Event =
    unit_lines_by n (closing airs (chosen_of earlier) earlier) ++ stale_lines (stale_in airs (chosen_steps earlier))
lines_by airs n earlier Stop = unit_lines_by n (closing airs (chosen_of earlier) earlier)
lines_by airs n earlier (Terminate reason) =
    unit_lines_by n (closing airs (chosen_of earlier) earlier) ++ control_line (end_pdu (chosen_steps earlier) reason)
lines_by airs n earlier End = unit_lines_by n (closing_both airs earlier)
lines_by airs n earlier (Drop sink) = []
lines_by airs n earlier step = output_of airs [] earlier step

abbrev pub lines_of : Airs → ℕ → List Step → List ℕ
lines_of airs n [] = []
lines_of airs n (step ∷ earlier) = lines_of airs n earlier ++ lines_by airs n earlier step

abbrev pub kept_lines : Airs → ℕ → ℕ → List Step → List ℕ
kept_lines airs s n [] = []
kept_lines airs s n (step ∷ earlier) =
    if is_kept s n earlier step then kept_lines airs s n earlier ++ lines_by airs n earlier step else kept_lines airs s n earlier

-- ---- the law

-- two histories of one sink come to the same: it stands alike, and on each link the same is joined, waits and is known
pub record IsSameHistory (made : Settings) (calls others : List Call) : Type 0 where
  pub snapshot : snapshot_in made calls ≡ snapshot_in made others
  pub states : (slot : ℕ) → state made.setup slot calls ≡ state made.setup slot others
  pub joined : (link : ℕ) → is_joined link calls ≡ is_joined link others
  pub writes : (link : ℕ) → writes_waiting link calls ≡ writes_waiting link others
  pub replies : (link : ℕ) → replied made link calls ≡ replied made link others
  pub notices : (link : ℕ) → notices_waiting made.setup made.mtu link calls ≡ notices_waiting made.setup made.mtu link others
  pub reads : (link slot : ℕ) → read_waits made.setup made.mtu link slot calls ≡ read_waits made.setup made.mtu link slot others
  pub views : (link slot : ℕ) → view made.setup made.mtu link slot calls ≡ view made.setup made.mtu link slot others

-- sink `n` is after these steps what it is after only those of them that are kept for it and source `s`, and the kept steps print the same
pub record IsIsolated (airs : Airs) (s n : ℕ) (steps : List Step) : Type 0 where
  pub made : made_of n steps ≡ made_of n (only s n steps)
  pub source : source_of n steps ≡ source_of n (only s n steps)
  pub calls : sink_calls airs n steps ≡ sink_calls airs n (only s n steps)
  pub units : units_by n (handed_up airs steps) ≡ units_by n (handed_up airs (only s n steps))
  pub sums : (box other : ℕ) → box_of n steps ≡ Some box → box_of n (only s n steps) ≡ Some other
      → valid_for box (handed_up airs steps) ≡ valid_for other (handed_up airs (only s n steps))
  pub lives : (made : Settings) → made_of n steps ≡ Some made → IsSameHistory made (calls_made n steps) (calls_made n (only s n steps))
  pub lines : kept_lines airs s n steps ≡ lines_of airs n (only s n steps)

-- The isolation law: of a scenario of which no line was refused and which has no `relay` line, where no step under another source
-- than `s` synchronizes sink `n` to a train or a BIG, the sink is isolated from all steps that aren't kept for it and `s`. It holds after
-- each step. Without a `relay` line what the lines say is all that happens.
abbrev pub IsolationLaw : List Account → Type 0
IsolationLaw starts = (airs : Airs) → MeetAirs airs → (lines : List TextLine) → Accepted (rules_of airs starts) lines
    → has_relay (said_of lines) ≡ false → (s : ℕ) → (n : ℕ) → NoOtherPuts s n (steps_of airs lines)
    → IsIsolated airs s n (steps_of airs lines)
