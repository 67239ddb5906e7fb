-- The receivers of the sinks of a scenario as the calls that each took: the BIGs that it was synchronized to and left, the PDUs that it
-- heard and the events that it closed (Core 5.2, volume 6 part B, section 4.4.6). A PDU of a source reaches only the sinks of that source,
-- and as an event of a source is closed, only its sinks close it. Lists of steps and calls have the newest first; where a list is
-- called `own` its steps are those of one source.
use Rattle.std.specs.Prelude.{ℕ, zero, suc, ◌+◌, ◌-◌, ◌*◌, ◌/◌, ◌%◌, ◌==◌, ◌&&◌, nat_lt, Bool, true, false, List, [], ◌∷◌, Option, None, Some, if◌then◌else◌}
use Rattle.big_info.specs.declared.info.BigInfo.{BigInfo}
use Rattle.group_sink.specs.Calls.{Call, tune, hear, tick}
use Rattle.scenario_text.specs.declared.step.Step.{Step}
use Rattle.scenario_text.specs.declared.step.Step.TheVariants.{Sink, Tuned, Event, Hear, Air, Inject, Announce, Train, Drop, Stop, Terminate, End}
use Rattle.scenario_history.specs.Steps.{chosen_of, chosen_steps, steps_of_source}
use Rattle.sink_history.specs.History.{made_of, named_by}
use Rattle.sink_history.specs.Moves.{received_by, source_by}
use Rattle.scenario_history.specs.Worlds.{big_sync_on, calls_made, source_at}
use Rattle.scenario_history.specs.Source.{setup_of, event_back, pdu_in, open_event}
use Rattle.source_machine.specs.Airs.{Airs}

-- ---- the source of a sink

-- a train that is heard may put the sink that its line names on it
abbrev pub sourced : ℕ → Step → ℕ → List Step → Option ℕ → Option ℕ
sourced n step sink earlier source = if sink == n then source_by (source_at earlier) step (made_of n earlier) (calls_made n earlier) source else source

abbrev pub source_after : ℕ → Step → List Step → Option ℕ → Option ℕ
source_after n (Sink sink streams slots mtu) earlier source = if sink == n then None else source
source_after n (Drop sink) earlier source = if sink == n then None else source
source_after n (Tuned sink which) earlier source = if sink == n then Some (chosen_of earlier) else source
source_after n (Announce sink) earlier source = sourced n (Announce sink) sink earlier source
source_after n (Train sink time ext adv acad) earlier source = sourced n (Train sink time ext adv acad) sink earlier source
source_after n _ earlier source = source

-- the source that the sink of this number is of: the one of the last step that synchronized it to a train or a BIG
abbrev pub source_of : ℕ → List Step → Option ℕ
source_of n [] = None
source_of n (step ∷ earlier) = source_after n step earlier (source_of n earlier)

abbrev pub is_of : ℕ → Option ℕ → Bool
is_of s None = false
is_of s (Some source) = source == s

-- ---- what a sink hears

pub record Position : Type 0 where
  pub bis : ℕ
  pub subevent : ℕ

-- the positions of an event, by rising index and then by rising subevent: the one at this place, from 0
abbrev pub position_at : BigInfo → ℕ → Position
position_at info i = record { bis = i / info.nse + 1; subevent = i % info.nse }

-- p: the number of the PDU at a position of an event, counted over all events, streams and subevents
abbrev pub count_of : BigInfo → ℕ → Position → ℕ
count_of info event position = (event * info.num_bis + (position.bis - 1)) * info.nse + position.subevent

-- of each `lose` PDUs the last is lost; with 0 none is
abbrev pub is_lost : BigInfo → ℕ → ℕ → Position → Bool
is_lost info event lose position = nat_lt 0 lose && (count_of info event position % lose == lose - 1)

abbrev pub hear_at : Airs → List Step → ℕ → Position → Call
hear_at airs own event position = hear event position.bis position.subevent (pdu_in airs own event position.bis position.subevent)

abbrev pub unless_lost : Bool → Call → List Call → List Call
unless_lost true call calls = calls
unless_lost false call calls = call ∷ calls

-- a sink hears the PDUs of the first `count` positions of the last event but those that are lost
abbrev pub heard_on_air : Airs → List Step → ℕ → ℕ → List Call → List Call
heard_on_air airs own lose zero calls = calls
heard_on_air airs own lose (suc i) calls =
    unless_lost (is_lost (setup_of own).info (event_back own 0) lose (position_at (setup_of own).info i))
    (hear_at airs own (event_back own 0) (position_at (setup_of own).info i)) (heard_on_air airs own lose i calls)

abbrev pub positions_of : List Step → ℕ
positions_of own = (setup_of own).info.num_bis * (setup_of own).info.nse

-- what is heard of the chosen source by a sink reaches the sink of this number: it is that sink, and it is of the source
abbrev pub reaches : ℕ → ℕ → List Step → Bool
reaches sink n earlier = (sink == n) && is_of (chosen_of earlier) (source_of n earlier)

-- ---- its calls

abbrev pub ticked : Option ℕ → List Call → List Call
ticked None calls = calls
ticked (Some event) calls = tick event ∷ calls

abbrev pub ticked_if : Bool → Option ℕ → List Call → List Call
ticked_if is_its last_open calls = if is_its then ticked last_open calls else calls

abbrev pub ticked_by : ℕ → ℕ → List Step → List Call → List Call
ticked_by s n earlier calls = ticked_if (is_of s (source_of n earlier)) (open_event (steps_of_source s earlier)) calls

-- a line of its control or of its links may synchronize the sink that it names to a BIG, or take it off one
abbrev pub moved : ℕ → Option ℕ → Step → List Step → List Call → List Call
moved n None line earlier calls = calls
moved n (Some sink) line earlier calls =
    if sink == n then received_by (source_at earlier) line (made_of n earlier) (calls_made n earlier) (calls_made n (line ∷ earlier)) calls else calls

-- what a step after these adds to the calls of the receivers of a sink; `end` closes the event of source 0 first
abbrev pub with_sink_call : Airs → ℕ → Step → List Step → List Call → List Call
with_sink_call airs n (Sink sink streams slots mtu) earlier calls = if sink == n then [] else calls
with_sink_call airs n (Drop sink) earlier calls = if sink == n then [] else calls
with_sink_call airs n (Tuned sink which) earlier calls =
    if sink == n then tune (big_sync_on (chosen_steps earlier) which) ∷ calls else calls
with_sink_call airs n (Hear sink back bis subevent) earlier calls = if reaches sink n earlier
    then hear_at airs (chosen_steps earlier) (event_back (chosen_steps earlier) back) (record { bis = bis; subevent = subevent }) ∷ calls
    else calls
with_sink_call airs n (Air sink lose) earlier calls = if reaches sink n earlier
    then heard_on_air airs (chosen_steps earlier) lose (positions_of (chosen_steps earlier)) calls else calls
with_sink_call airs n (Inject sink back bis subevent octets) earlier calls =
    if reaches sink n earlier then hear (event_back (chosen_steps earlier) back) bis subevent octets ∷ calls else calls
with_sink_call airs n Event earlier calls = ticked_by (chosen_of earlier) n earlier calls
with_sink_call airs n Stop earlier calls = ticked_by (chosen_of earlier) n earlier calls
with_sink_call airs n (Terminate reason) earlier calls = ticked_by (chosen_of earlier) n earlier calls
with_sink_call airs n End earlier calls = ticked_by 1 n earlier (ticked_by 0 n earlier calls)
with_sink_call airs n line earlier calls = moved n (named_by line) line earlier calls

abbrev pub sink_calls : Airs → ℕ → List Step → List Call
sink_calls airs n [] = []
sink_calls airs n (step ∷ earlier) = with_sink_call airs n step earlier (sink_calls airs n earlier)
