-- What each step prints. The lines are the scenario language's own; the units and times in them are after Core 5.2,
-- volume 6 part G, sections 2.1 and 3.2. As an event of source 0 is closed, each sink has the lines of its units and then a line
-- for each unit that its relay offers and that source 1 doesn't take.
use Rattle.std.specs.Prelude.{ℕ, ◌+◌, ◌==◌, List, [], ◌++◌, map, length, Option, None, Some, if◌then◌else◌}
use Rattle.std.specs.List.{concat, filter, flat_map, sum}
use Rattle.unit_outlets.specs.Account.{Account}
use Rattle.isoal_base.specs.declared.hearing.Hearing.{Hearing}
use Rattle.isoal_base.specs.declared.hearing.Hearing.TheVariants.{NotOnGroup}
use Rattle.source_machine.specs.declared.sent.Stale.{Stale}
use Rattle.group_sink.specs.Hearings.{hearing_of}
use Rattle.transcript_text.specs.declared.refusal.Refusal.{Refusal}
use Rattle.transcript_text.specs.Lines.{dropped_line, handed_line, pdu_line, heard_line, stale_line, control_line, sum_line}
use Rattle.scenario_text.specs.declared.step.Step.{Step}
use Rattle.scenario_text.specs.declared.step.Step.TheVariants.{Event, Inject, Sniff, Announce, Train, Serve, Tell, Read, Drain, Show, Lose, Control, Forge}
use Rattle.scenario_text.specs.declared.step.Step.TheVariants.{AServe, ATell, ARead, ADrain, AShow, Drop, Stop, Terminate, End}
use Rattle.sink_history.specs.Output.{printed}
use Rattle.scenario_history.specs.Steps.{chosen_of, chosen_steps}
use Rattle.scenario_history.specs.Source.{event_back, end_pdu, pdu_in, stale_in}
use Rattle.source_machine.specs.Airs.{Airs}
use Rattle.scenario_history.specs.Sinks.{is_of, sink_calls, source_of}
use Rattle.scenario_history.specs.Worlds.{the_world}
use Rattle.scenario_history.specs.RelayedUnits.{Answered, Offer, answered_by, handed_of}
use Rattle.scenario_history.specs.Boxes.{SinkUnit, sink_numbers, account_at, box_of, closing, closing_both, valid_for, handed_up}

abbrev pub unit_line : SinkUnit → List ℕ
unit_line unit = handed_line unit.sink unit.unit

abbrev pub unit_lines : List SinkUnit → List ℕ
unit_lines units = flat_map unit_line units

abbrev pub answer_line : Offer → Option Refusal → List ℕ
answer_line offer None = []
answer_line offer (Some reason) = dropped_line offer.sink offer.route.bis reason

abbrev pub dropped_lines : ℕ → List Answered → List ℕ
dropped_lines n answers = flat_map (λ answer. answer_line answer.offer answer.reason) (filter (λ answer. answer.offer.sink == n) answers)

-- by rising sink: what it hands up of source 0, and then the units that its relay offers and source 1 doesn't take
abbrev pub first_lines : List SinkUnit → List Answered → List ℕ
first_lines units answers = flat_map (λ n. flat_map (handed_line n) (handed_of 0 n units) ++ dropped_lines n answers) sink_numbers

abbrev pub close_lines : Airs → List Step → Step → List ℕ
close_lines airs steps step = if chosen_of steps == 0 then first_lines (closing airs 0 steps) (answered_by airs steps step)
    else unit_lines (closing airs (chosen_of steps) steps)

abbrev pub stale_lines : List Stale → List ℕ
stale_lines units = flat_map (λ unit. stale_line unit.bis unit.time) units

-- the sums of a box: those at the start, and the count and the octets of the valid units that were handed to it
abbrev pub sum_of : List Account → List SinkUnit → ℕ → ℕ → List ℕ
sum_of starts units n box =
    sum_line n ((account_at starts box).units + length (valid_for box units)) ((account_at starts box).octets + sum (map length (valid_for box units)))

abbrev pub sum_if : List Account → List SinkUnit → ℕ → Option ℕ → List ℕ
sum_if starts units n None = []
sum_if starts units n (Some box) = sum_of starts units n box

abbrev pub sums_of : List Account → List SinkUnit → List Step → List ℕ
sums_of starts units steps = flat_map (λ n. sum_if starts units n (box_of n steps)) sink_numbers

-- what a sink makes of a PDU that is injected in the place of one of the chosen source: on no group, where it isn't of this source
abbrev pub injected_hearing : Airs → List Step → ℕ → ℕ → ℕ → ℕ → List ℕ → Hearing
injected_hearing airs steps sink back bis subevent octets = if is_of (chosen_of steps) (source_of sink steps)
    then hearing_of (sink_calls airs sink steps) (event_back (chosen_steps steps) back) bis subevent octets else NotOnGroup

abbrev pub sink_lines : List Step → Step → List ℕ
sink_lines steps step = concat (printed the_world steps step)

-- what the step of a line after these prints, with these accounts at the start
abbrev pub output_of : Airs → List Account → List Step → Step → List ℕ
output_of airs starts steps Event = close_lines airs steps Event ++ stale_lines (stale_in airs (chosen_steps steps))
output_of airs starts steps Stop = close_lines airs steps Stop
output_of airs starts steps (Terminate reason) =
    close_lines airs steps (Terminate reason) ++ control_line (end_pdu (chosen_steps steps) reason)
output_of airs starts steps End = first_lines (closing airs 0 steps) (answered_by airs steps End)
    ++ (unit_lines (closing airs 1 steps) ++ sums_of starts (handed_up airs steps ++ closing_both airs steps) steps)
output_of airs starts steps (Drop sink) = sum_if starts (handed_up airs steps) sink (box_of sink steps)
output_of airs starts steps (Inject sink back bis subevent octets) =
    heard_line sink (injected_hearing airs steps sink back bis subevent octets)
output_of airs starts steps (Sniff back bis subevent) =
    pdu_line (event_back (chosen_steps steps) back) bis subevent (pdu_in airs (chosen_steps steps) (event_back (chosen_steps steps) back) bis subevent)
output_of airs starts steps (Announce sink) = sink_lines steps (Announce sink)
output_of airs starts steps (Train sink time ext adv acad) = sink_lines steps (Train sink time ext adv acad)
output_of airs starts steps (Serve sink) = sink_lines steps (Serve sink)
output_of airs starts steps (Tell sink) = sink_lines steps (Tell sink)
output_of airs starts steps (Read sink) = sink_lines steps (Read sink)
output_of airs starts steps (Drain sink) = sink_lines steps (Drain sink)
output_of airs starts steps (Show sink) = sink_lines steps (Show sink)
output_of airs starts steps (Lose sink) = sink_lines steps (Lose sink)
output_of airs starts steps (Control sink octets) = sink_lines steps (Control sink octets)
output_of airs starts steps (Forge sink slot octets) = sink_lines steps (Forge sink slot octets)
output_of airs starts steps (AServe sink link) = sink_lines steps (AServe sink link)
output_of airs starts steps (ATell sink link) = sink_lines steps (ATell sink link)
output_of airs starts steps (ARead sink link) = sink_lines steps (ARead sink link)
output_of airs starts steps (ADrain sink link) = sink_lines steps (ADrain sink link)
output_of airs starts steps (AShow sink link) = sink_lines steps (AShow sink link)
output_of airs starts steps _ = []
