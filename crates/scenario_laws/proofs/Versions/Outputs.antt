-- What the steps of a scenario in version 2 hand up and print: the same, where no train was answered `BadGroup 11`. Lists of
-- steps have the newest first; where a list is called `own` its steps are those of one source.
use Rattle.scenario_laws.proofs.Known.Sources.{ℕ, ◌≡◌, false, List, [], ◌∷◌, ◌++◌, Option, None, Some, refl, sym, ◌∙◌, ap, ap₂, arith, concat, Account, airs_of, Step, control_line, Settings, Source, named_by, train_by, printed_at, printed_where, SinkUnit, closing_at, handed_by, handed_up, close_lines, output_of, sink_lines, stale_lines, sums_of, has_relay, end_pdu, open_event, stale_in, chosen_of, chosen_steps, steps_of_source, the_world, LinkCall as Call, closing, plain_close, plain_end, flat_same, printed_same, has_relay_same, stale_same, at_second, chosen_same, over_same, same, seconds}
use Rattle.scenario_laws.proofs.Versions.Lived.{AreCalm, AreWider, IsCalm, QuietHistory, is_quiet, history_same, made_wider, quiet_history, source_same}
use Rattle.scenario_laws.proofs.Versions.Received.{HeardNear, sink_calls_same, source_of_same}
use Rattle.scenario_laws.proofs.Versions.Refused.{box_same}

-- ---- what is handed up

closing_at_same : (s : ℕ) (made : List Step) (last_open : Option ℕ) → AreCalm made
    → closing_at airs_of s (seconds made) last_open ≡ closing_at airs_of s made last_open
closing_at_same s made last_open calm = grind (arith, sink_calls_same, source_of_same, box_same)

closing_same : (s : ℕ) (made : List Step) → AreCalm made → closing airs_of s (seconds made) ≡ closing airs_of s made
closing_same s made calm = search (same, over_same, closing_at_same s made (open_event (steps_of_source s made)) calm)

closing_chosen : (made : List Step) → AreCalm made → closing airs_of (chosen_of (seconds made)) (seconds made)
    ≡ closing airs_of (chosen_of made) made
closing_chosen made calm = cc (chosen_same made, closing_same (chosen_of made) made calm)

handed_same : (made : List Step) (step : Step) → AreCalm made → handed_by airs_of (seconds made) step ≡ handed_by airs_of made step
handed_same made this calm = grind (arith, closing_same, closing_chosen)

pub handed_up_same : (made : List Step) → AreCalm made → handed_up airs_of (seconds made) ≡ handed_up airs_of made
handed_up_same [] calm = refl
handed_up_same (step ∷ earlier) calm = λ i. handed_up_same earlier calm.0 i
    ++ (at_second (λ one two. handed_by airs_of (seconds earlier) two ≡ handed_by airs_of (seconds earlier) one) (λ version. refl)
    (λ step. refl) step ∙ handed_same earlier step calm.0) i

-- ---- what a step prints of a sink

where_same : (source : Source) (step : Step) (made other : Option Settings) (calls : List Call) → AreWider made other → QuietHistory made calls
    → HeardNear made calls (train_by source step) → printed_where source step other calls ≡ printed_where source step made calls
where_same source this made other calls wider quiet near = grind (arith, printed_same, is_quiet)

named_same : (made : List Step) (step : Step) (named : Option ℕ) → named_by step ≡ named → AreCalm made → IsCalm made step
    → printed_at the_world (seconds made) step named ≡ printed_at the_world made step named
named_same made this None names calm is = refl
named_same made this (Some n) names calm is = search (ap₂, seconds, source_same, history_same, where_same, made_wider, quiet_history)

lines_same : (made : List Step) (step : Step) → AreCalm made → IsCalm made step → sink_lines (seconds made) step ≡ sink_lines made step
lines_same made step calm is = ap concat (named_same made step (named_by step) refl calm is)

-- ---- what a step prints

sums_same : (starts : List Account) (units : List SinkUnit) (made : List Step)
    → sums_of starts units (seconds made) ≡ sums_of starts units made
sums_same starts units made = search (flat_same, seconds, box_same)

close_same : (made : List Step) (step : Step) → has_relay made ≡ false → AreCalm made
    → close_lines airs_of (seconds made) step ≡ close_lines airs_of made step
close_same made step none calm =
    cc (plain_close airs_of (seconds made) step (has_relay_same made ∙ none), closing_chosen made calm, plain_close airs_of made step none)

ends_same : (starts : List Account) (made : List Step) → has_relay made ≡ false → AreCalm made
    → output_of airs_of starts (seconds made) Step.End ≡ output_of airs_of starts made Step.End
ends_same starts made none calm =
    plain_end airs_of starts (seconds made) (has_relay_same made ∙ none)
    ∙ simp (handed_same made Step.End calm, handed_up_same made calm, sums_same) (sym (plain_end airs_of starts made none))

pub output_same : (starts : List Account) (made : List Step) (step : Step) → has_relay made ≡ false → AreCalm made → IsCalm made step
    → output_of airs_of starts (seconds made) step ≡ output_of airs_of starts made step
output_same starts made Step.Event none calm is =
    let own : chosen_steps (seconds made) ≡ seconds (chosen_steps made) = search same in
    λ i. close_same made Step.Event none calm i ++ stale_lines ((ap (stale_in airs_of) own ∙ stale_same (chosen_steps made)) i)
output_same starts made Step.Stop none calm is = close_same made Step.Stop none calm
output_same starts made (Step.Terminate reason) none calm is =
    let ended : end_pdu (chosen_steps (seconds made)) reason ≡ end_pdu (chosen_steps made) reason = search same in
    λ i. close_same made (Step.Terminate reason) none calm i ++ control_line (ended i)
output_same starts made Step.End none calm is = ends_same starts made none calm
output_same starts made (Step.Drop sink) none calm is = search (handed_up_same made calm, box_same)
output_same starts made (Step.Inject sink back bis subevent octets) none calm is =
    search (same, source_of_same sink made calm, sink_calls_same sink made calm)
output_same starts made (Step.Sniff back bis subevent) none calm is = search same
output_same starts made step none calm is = search (lines_same made step calm is)
