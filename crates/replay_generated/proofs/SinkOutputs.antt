-- What a line prints of a sink and of its assistants is whole lines.
use Rattle.std.proofs.Common.{arith}
use Rattle.replay_generated.proofs.Prelude.{ℕ, zero, suc, List, [], ◌∷◌, ◌++◌, map, Option, concat, flat_map, joined, line_of, Step, IsWhole, whole_append, whole_ended, whole_none}
use Rattle.delegator_history.specs.Trains.{Settings}
use Rattle.sink_history.specs.Calls.{Call}
use Rattle.transcript_text.specs.SinkLines.{Label}
use Rattle.scenario_text.specs.declared.step.Step.TheVariants as steps
use Rattle.sink_history.specs.History.{Source, World, named_by}
use Rattle.sink_history.specs.Output.{Lines, drain_lines, if_there, printed, printed_at, printed_of, read_lines}
use Rattle.sink_history.specs.Output.{serve_lines, tell_lines}
use Rattle.scenario_history.specs.Output.{sink_lines}
use Rattle.scenario_history.specs.Worlds.{the_world}

-- each of these lines is whole
abbrev AllWhole : Lines → Type 0
AllWhole [] = Unit {0}
AllWhole (line ∷ lines) = IsWhole line × AllWhole lines

concat_whole : (lines : Lines) → AllWhole lines → IsWhole (concat lines)
concat_whole [] all = whole_none
concat_whole (line ∷ lines) all = whole_append line (concat lines) all.0 (concat_whole lines all.1)

more_whole : (prefix lines : Lines) → AllWhole prefix → AllWhole lines → AllWhole (prefix ++ lines)
more_whole [] lines all more = more
more_whole (line ∷ prefix) lines all more = (all.0, more_whole prefix lines all.1 more)

there_whole : {A : Type 0} (line : A → List ℕ) → ((what : A) → IsWhole (line what)) → (o : Option A) → AllWhole (if_there line o)
there_whole line each o = grind arith

map_whole : (line : ℕ → List ℕ) → ((slot : ℕ) → IsWhole (line slot)) → (slots : List ℕ) → AllWhole (map line slots)
map_whole line each [] = tt
map_whole line each (slot ∷ slots) = (each slot, map_whole line each slots)

flat_whole : (print : ℕ → Lines) → ((slot : ℕ) → AllWhole (print slot)) → (slots : List ℕ) → AllWhole (flat_map print slots)
flat_whole print each [] = tt
flat_whole print each (slot ∷ slots) = more_whole (print slot) (flat_map print slots) (each slot) (flat_whole print each slots)

pub line_whole : (first : List ℕ) (words : List (List ℕ)) → IsWhole (line_of first words)
line_whole first words = whole_ended (joined first words)

-- ---- the lines of a link

module _ (label : Label) (made : Settings) (link : ℕ) where
  serves_whole : (count : ℕ) (calls : List Call) → AllWhole (serve_lines label made link count calls)
  serves_whole zero calls = tt
  serves_whole (suc count) calls = search (more_whole, serves_whole count calls, there_whole, line_whole)

  tells_whole : (count : ℕ) (calls : List Call) → AllWhole (tell_lines label made link count calls)
  tells_whole zero calls = tt
  tells_whole (suc count) calls = search (more_whole, tells_whole count calls, there_whole, line_whole)

  reads_whole : (count : ℕ) (calls : List Call) → AllWhole (read_lines label made link count calls)
  reads_whole zero calls = tt
  reads_whole (suc count) calls = search (more_whole, reads_whole count calls, there_whole, line_whole)

  drain_whole : (calls : List Call) → AllWhole (drain_lines label made link calls)
  drain_whole calls = search (more_whole, serves_whole, tells_whole, reads_whole)

-- ---- all of it

of_whole : (source : Source) (step : Step) (made : Settings) (calls : List Call) → AllWhole (printed_of source step made calls)
of_whole source (steps.Announce sink) made calls = search line_whole
of_whole source next made calls = search (there_whole, drain_whole, flat_whole, map_whole, line_whole)

at_whole : (world : World) (earlier : List Step) (next : Step) (named : Option ℕ) → AllWhole (printed_at world earlier next named)
at_whole world earlier next named = grind (arith, of_whole)

pub sink_lines_whole : (earlier : List Step) (next : Step) → IsWhole (sink_lines earlier next)
sink_lines_whole earlier next = concat_whole (printed the_world earlier next) (at_whole the_world earlier next (named_by next))
