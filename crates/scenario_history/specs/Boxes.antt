-- Which box a sink has, what each close hands up, and what the boxes took (the units are the SDUs of Core 5.2, volume 6
-- part G, section 1). Boxes count from 0, in the order of their list. Lists of steps have the newest first.
use Rattle.std.specs.Prelude.{ℕ, ◌+◌, ◌<◌, ◌^◌, ◌==◌, Bool, IsTrue, false, List, [], ◌∷◌, ◌++◌, map, length, sum, slice_get, slice_index_or, slice_set, option_map, ◌≡◌, Option, None, Some, if◌then◌else◌}
use Rattle.std.specs.List.{flat_map, range_with_len}
use Rattle.circular_buffer.specs.Buffer.{keep_last}
use Rattle.unit_outlets.specs.Account.{Account, fresh, with_unit}
use Rattle.unit_outlets.specs.Handed.{Handed, valid, lost}
use Rattle.group_sink.specs.Calls.{Call}
use Rattle.group_sink.specs.Handing.{handed_at}
use Rattle.scenario_text.specs.declared.step.Step.{Step}
use Rattle.scenario_text.specs.declared.step.Step.TheVariants.{Sink, Event, Drop, Stop, Terminate, End}
use Rattle.scenario_history.specs.Steps.{chosen_of, sinks_made, steps_of_source}
use Rattle.scenario_history.specs.Source.{open_event}
use Rattle.source_machine.specs.Airs.{Airs}
use Rattle.scenario_history.specs.Sinks.{is_of, sink_calls, source_of}

abbrev pub most_sinks : ℕ
most_sinks = 8

unfoldable pub sink_numbers : List ℕ
sink_numbers = range_with_len 0 most_sinks

abbrev pub box_after : ℕ → Step → List Step → Option ℕ → Option ℕ
box_after n (Sink sink streams slots mtu) earlier box = if sink == n then Some (sinks_made earlier) else box
box_after n (Drop sink) earlier box = if sink == n then None else box
box_after n _ earlier box = box

-- the box of the sink of this number, where it lives
abbrev pub box_of : ℕ → List Step → Option ℕ
box_of n [] = None
box_of n (step ∷ earlier) = box_after n step earlier (box_of n earlier)

-- a unit that a sink hands up, with the source that the sink is of and the box of the sink
pub record SinkUnit : Type 0 where
  pub source : ℕ
  pub sink : ℕ
  pub box : ℕ
  pub unit : Handed

-- what a sink with a box or none hands up after these calls as an event of a source closes, by rising stream and then in order
abbrev pub closing_in : ℕ → ℕ → ℕ → List Call → Option ℕ → List SinkUnit
closing_in s event n calls None = []
closing_in s event n calls (Some box) = map (λ unit. record { source = s; sink = n; box = box; unit = unit }) (handed_at calls event)

-- the same of a sink of this source or of none: as an event of source `s` is closed, only its sinks hand something up
abbrev pub closing_by : ℕ → ℕ → ℕ → List Call → Option ℕ → Option ℕ → List SinkUnit
closing_by s event n calls source box = if is_of s source then closing_in s event n calls box else []

-- what the sinks of a source hand up as its open event is closed, by rising number
abbrev pub closing_at : Airs → ℕ → List Step → Option ℕ → List SinkUnit
closing_at airs s steps None = []
closing_at airs s steps (Some event) =
    flat_map (λ n. closing_by s event n (sink_calls airs n steps) (source_of n steps) (box_of n steps)) sink_numbers

abbrev pub closing : Airs → ℕ → List Step → List SinkUnit
closing airs s steps = closing_at airs s steps (open_event (steps_of_source s steps))

abbrev pub closing_both : Airs → List Step → List SinkUnit
closing_both airs steps = closing airs 0 steps ++ closing airs 1 steps

abbrev pub handed_by : Airs → List Step → Step → List SinkUnit
handed_by airs earlier Event = closing airs (chosen_of earlier) earlier
handed_by airs earlier Stop = closing airs (chosen_of earlier) earlier
handed_by airs earlier (Terminate reason) = closing airs (chosen_of earlier) earlier
handed_by airs earlier End = closing_both airs earlier
handed_by airs earlier _ = []

abbrev pub handed_up : Airs → List Step → List SinkUnit
handed_up airs [] = []
handed_up airs (step ∷ earlier) = handed_up airs earlier ++ handed_by airs earlier step

-- ---- the boxes

abbrev pub no_account : Account
no_account = fresh false 0 None

abbrev pub account_at : List Account → ℕ → Account
account_at accounts box = slice_index_or accounts box no_account

abbrev pub with_handed : List Account → ℕ → Handed → List Account
with_handed accounts box (valid bis time octets) = slice_set accounts box (with_unit octets (account_at accounts box))
with_handed accounts box (lost bis time) = accounts

abbrev pub accounts_after : List Account → List SinkUnit → List Account
accounts_after accounts [] = accounts
accounts_after accounts (unit ∷ units) = accounts_after (with_handed accounts unit.box unit.unit) units

-- ---- what went to a box

abbrev pub onto_valid : Bool → Handed → List (List ℕ) → List (List ℕ)
onto_valid is_its (valid bis time octets) units = if is_its then octets ∷ units else units
onto_valid is_its (lost bis time) units = units

abbrev pub valid_for : ℕ → List SinkUnit → List (List ℕ)
valid_for box [] = []
valid_for box (unit ∷ units) = onto_valid (unit.box == box) unit.unit (valid_for box units)

abbrev pub kept_with : ℕ → List (List ℕ) → Option (List (List ℕ)) → Option (List (List ℕ))
kept_with greatest [] kept = kept
kept_with greatest (unit ∷ units) None = None
kept_with greatest (unit ∷ units) (Some kept) = Some (keep_last greatest (kept ++ unit ∷ units))

abbrev pub with_units : Account → List (List ℕ) → Account
with_units account units = record account {
  units = account.units + length units;
  octets = account.octets + sum (map length units);
  kept = kept_with account.greatest units account.kept;
}

-- each box took the valid units of its sink among these, and nothing else happened to it
abbrev pub Took : List Account → List Account → List SinkUnit → Type 0
Took starts ends units =
    (box : ℕ) → slice_get ends box ≡ option_map (λ account. with_units account (valid_for box units)) (slice_get starts box)

abbrev pub Holds : Account → Type 0
Holds account = (account.units < 2 ^ 64) × (account.octets < 2 ^ 64)

-- each box is sound, and its sums hold what it has at the start and the valid units of its sink among these
abbrev pub RoomFor : List Account → List SinkUnit → Type 0
RoomFor starts units = (box : ℕ) (account : Account) → slice_get starts box ≡ Some account
    → IsTrue account.is_sound × Holds (with_units account (valid_for box units))
