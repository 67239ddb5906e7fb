-- The steps that close the open event of the chosen source.
use Rattle.replay_steps.proofs.Prelude.{◌≡◌, ◌≤◌, ◌<◌, ℕ, slice_get, sinks_made, Histories, UnassignedSame, Sources, zero, suc, false, List, [], ◌∷◌, ◌++◌, length, inr, refl, sym, ◌∙◌, ap, append_assoc, append-nil, subst, arith, Option, None, Result, Ok, Err, Account, airs_of, Stop, Memory, control_line, Step, chosen_of, chosen_steps, is_over, is_over_at, running, stage_of, steps_of_source, end_pdu, open_event, stale_in, SinkUnit, closing, handed_by, Answered, answered_by, with_relayed_units, close_lines, first_lines, stale_lines, unit_lines, stage_same, fault_of, SourcesStand, closings_at, with_close, Machine, Stands, histories_of, Meets, phase_line, Closes, ComponentsStand, sink_numbers}
use Rattle.scenario_text.specs.declared.step.Step.TheVariants as variants
use Rattle.scenario_sources.specs.Answers as sources
use Rattle.replay_steps.proofs.Closed.{Did, first_did, second_did, stops_meet}
use Rattle.replay_steps.proofs.ClosesFirst.{CloseSays, ClosesOpen, first_says, first_stands}
use Rattle.replay_steps.proofs.Stepping.{as_step, source_fault, relays_stay}
use Rattle.replay_steps.proofs.Unassigned.{unassigned_in}

-- ---- the scenario goes on for each source

pub not_over : (s version : ℕ) (steps : List Step) → stage_of steps ≡ running version → is_over (steps_of_source s steps) ≡ false
not_over s version steps e = ap is_over_at (stage_same s steps ∙ e)

-- ---- what is handed up

pub closing_is : (s source : ℕ) (closed : Option ℕ) (steps : List Step) → source ≡ s → closed ≡ open_event (steps_of_source s steps)
    → closings_at source closed (histories_of steps) ≡ closing airs_of s steps
closing_is s source closed steps same is = grind arith

second_says : (made : Step) (tail : List Step → List ℕ) (steps : List Step) (closed : Option ℕ) → ClosesOpen made tail → chosen_of steps ≡ 1
    → closed ≡ open_event (chosen_steps steps)
    → CloseSays steps made (closings_at 1 closed (histories_of steps)) [] (unit_lines (closings_at 1 closed (histories_of steps)))
second_says made tail steps closed closes is open_is =
    grind (arith, closing_is)

fault_line : (made : Step) (tail : List Step → List ℕ) (boxes version : ℕ) (steps : List Step) → ClosesOpen made tail → stage_of steps ≡ running version
    → phase_line airs_of boxes steps made ≡ fault_of version steps made
fault_line made tail boxes version steps closes e = as_step boxes steps made closes.minds ∙ source_fault boxes version steps made closes.on e

second_stands : (made : Step) (tail : List Step → List ℕ) (steps : List Step) (closed : Option ℕ) (old new : Machine) → ClosesOpen made tail → Stands steps old
    → chosen_of steps ≡ 1 → closed ≡ open_event (chosen_steps steps) → new.stage ≡ old.stage → ComponentsStand (made ∷ steps) (with_close 1 closed (histories_of steps)) new
    → Stands (made ∷ with_relayed_units airs_of steps made) new
second_stands made tail steps closed old new closes stands is open_is stage components = grind arith

-- the close of such a step, by what it says
did_as : (steps : List Step) (made : Step) (units : List SinkUnit) (answers : List Answered) (lines : List ℕ) (one other : Type 0)
    (text told : List ℕ) (before after : List Account)
    (r : Result (Unit {0}) Stop) → CloseSays steps made units answers lines → (one → other)
    → Did units answers lines one text told before after r
    → Did (handed_by airs_of steps made) (answered_by airs_of steps made) (close_lines airs_of steps made) other text told before after r
did_as steps made units answers lines one other text told before after r says then d = grind arith

-- nothing is printed of no units
pub nothing_printed : (let none : List SinkUnit = [] in let unasked : List Answered = [] in first_lines none unasked ≡ [])
unfolding sink_numbers
nothing_printed = refl

-- what became of a close of the open event of the chosen source
close_did : (made : Step) (tail : List Step → List ℕ) (closes : ClosesOpen made tail) (steps : List Step) (closed : Option ℕ)
    → closed ≡ open_event (chosen_steps steps)
    → (source : ℕ) (old new : Machine) (text told : List ℕ) (before after : List Account) (r : Result (Unit {0}) Stop) → Stands steps old
    → source ≡ chosen_of steps
    → source < 2 → new.stage ≡ old.stage → Closes (made ∷ steps) (histories_of steps) source closed new text told before after r
    → Did (handed_by airs_of steps made) (answered_by airs_of steps made) (close_lines airs_of steps made)
    (Stands (made ∷ with_relayed_units airs_of steps made) new)
    text told before after r
close_did made tail closes steps closed is zero old new text told before after r stands chosen within stage m =
    did_as steps made _ _ _ _ _ text told before after r (first_says made tail steps closed closes (sym chosen) is)
    (first_stands made tail steps closed old new closes stands (sym chosen) is stage)
    (first_did (made ∷ steps) (histories_of steps) closed new text told before after r m)
close_did made tail closes steps closed is (suc zero) old new text told before after r stands chosen within stage m =
    did_as steps made _ _ _ _ _ text told before after r (second_says made tail steps closed closes (sym chosen) is)
    (second_stands made tail steps closed old new closes stands (sym chosen) is stage)
    (subst (λ l. Did (closings_at 1 closed (histories_of steps)) [] (l ++ unit_lines (closings_at 1 closed (histories_of steps)))
    (ComponentsStand (made ∷ steps) (with_close 1 closed (histories_of steps)) new) text told before after r) nothing_printed
    (second_did (made ∷ steps) (histories_of steps) closed [] [] new text text told before before after r tt
    (sym (append-nil text) ∙ ap (λ l. text ++ l) (sym nothing_printed)) refl m))
close_did made tail closes steps closed is (suc (suc s)) old new text told before after r stands chosen within stage m =
    absurd (omega (arith, within))

-- ---- what the step prints behind its lines

-- the sinks closed the event, and relays offered what they handed up
pub record Closed (starts : List Account) (steps : List Step) (made : Step) (new : Machine) (text told : List ℕ) (before after : List Account) : Type 0 where
  pub passes : phase_line airs_of (length starts) steps made ≡ None
  pub did : Did (handed_by airs_of steps made) (answered_by airs_of steps made) (close_lines airs_of steps made)
      (Stands (made ∷ with_relayed_units airs_of steps made) new)
      text told before after (Ok tt)

pub closed_meets : (made : Step) (tail : List Step → List ℕ) (starts : List Account) (steps : List Step) (new : Machine) (text told last : List ℕ) (before after : List Account)
    → ClosesOpen made tail → Closed starts steps made new text told before after → last ≡ told ++ tail steps → Meets starts steps made new text last before after (Ok tt)
closed_meets made tail starts steps new text told last before after closes all lines = grind (arith, append_assoc)

-- all units went to their boxes, and memory ran out as more was printed
pub closed_wants : (made : Step) (starts : List Account) (steps : List Step) (new : Machine) (text told : List ℕ)
    (before after : List Account)
    → Closed starts steps made new text told before after → Meets starts steps made new text told before after (Err Memory)
closed_wants made starts steps new text told before after all = inr (
  all.passes,
  record { done = handed_by airs_of steps made; rest = []; split = sym (append-nil (handed_by airs_of steps made)); boxes = all.did.3 },
)

-- ---- the sources took the step, and then the event is closed

module _ {made : Step} {tail : List Step → List ℕ} (closes : ClosesOpen made tail) {steps : List Step} {old : Machine}
    (stands : Stands steps old) {taken : Sources} (sources : SourcesStand (made ∷ steps) taken) where
  components_then : ComponentsStand (made ∷ steps) (histories_of steps) (record old { sources = taken })
  components_then =
      record { sources = sources; sinks = stands.sinks; relays = relays_stay steps made old.relays closes.minds stands.relays }

  -- the boxes that no sink took
  pub others_stay : {A : Type 0} (boxes after : List A)
      → ((late : List Step) (past : Histories) → ComponentsStand late past (record old { sources = taken })
      → UnassignedSame past boxes after) → (box : ℕ) → sinks_made steps ≤ box → slice_get after box ≡ slice_get boxes box
  others_stay boxes after others = unassigned_in steps boxes after (others (made ∷ steps) (histories_of steps) components_then)

  module _ {version : ℕ} (e : stage_of steps ≡ running version)
      (passes : fault_of version steps made ≡ None) {source : ℕ} {closed : Option ℕ}
      (opened : is_over (chosen_steps steps) ≡ false → closed ≡ open_event (chosen_steps steps)) (chosen : source ≡ chosen_of steps)
      (within : source < 2) (starts : List Account) (new : Machine) (text told : List ℕ) (before after : List Account) where
    pub closed_by : new.stage ≡ old.stage
        → ((late : List Step) (past : Histories) → ComponentsStand late past (record old { sources = taken })
        → Closes late past source closed new text told before after (Ok tt)) → Closed starts steps made new text told before after
    closed_by stage m = record {
      passes = fault_line made tail (length starts) version steps closes e ∙ passes;
      did = close_did made tail closes steps closed (opened (not_over (chosen_of steps) version steps e)) source old new text told
          before after (Ok tt) stands chosen within stage (m (made ∷ steps) (histories_of steps) components_then);
    }

    pub stops_by : (there : Machine) (stop : Stop) → new.stage ≡ old.stage
        → ((late : List Step) (past : Histories) → ComponentsStand late past (record old { sources = taken })
        → Closes late past source closed new text told before after (Err stop))
        → Meets starts steps made there text told before after (Err stop)
    stops_by there stop stage m =
        stops_meet starts steps made there _ [] _ _ (tail steps) text told before after stop
        (fault_line made tail (length starts) version steps closes e ∙ passes)
        (sym (append-nil (handed_by airs_of steps made))) refl (closes.output starts steps)
        (close_did made tail closes steps closed (opened (not_over (chosen_of steps) version steps e)) source old new text told before after
        (Err stop) stands chosen within stage (m (made ∷ steps) (histories_of steps) components_then))

    -- a step that prints nothing behind the lines of the close
    pub closes_meet : (r : Result (Unit {0}) Stop) → tail steps ≡ [] → new.stage ≡ old.stage
        → ((late : List Step) (past : Histories) → ComponentsStand late past (record old { sources = taken })
        → Closes late past source closed new text told before after r) → Meets starts steps made new text told before after r
    closes_meet (Ok x) none stage m =
        closed_meets made tail starts steps new text told told before after closes (closed_by stage m)
        (sym (append-nil told) ∙ ap (λ l. told ++ l) (sym none))
    closes_meet (Err stop) none stage m = stops_by new stop stage m

-- the sources refused it
pub step_refused : {made : Step} {tail : List Step → List ℕ} {steps : List Step} {old : Machine} (starts : List Account) (version : ℕ)
    (taken : Sources) (text : List ℕ)
    (accounts : List Account) (stop : Stop) → ClosesOpen made tail → Stands steps old → stage_of steps ≡ running version
    → sources.Answers version steps made taken (Err stop)
    → Meets starts steps made (record old { sources = taken }) text text accounts accounts (Err stop)
step_refused {made} {tail} {steps} {old} starts version taken text accounts stop closes stands e c = grind arith

-- ---- event, stop, terminate

-- `event` prints the units that it left out, and `terminate` the PDU that ends the group
abbrev pub event_tail : List Step → List ℕ
event_tail own = stale_lines (stale_in airs_of (chosen_steps own))

abbrev pub terminate_tail : (reason : ℕ) → List Step → List ℕ
terminate_tail reason own = control_line (end_pdu (chosen_steps own) reason)

pub event_closes : ClosesOpen variants.Event event_tail
event_closes = grind arith

pub stop_closes : ClosesOpen variants.Stop (λ own. [])
stop_closes = grind (arith, append-nil, close_lines, airs_of)

pub terminate_closes : (reason : ℕ) → ClosesOpen (variants.Terminate reason) (terminate_tail reason)
terminate_closes reason = grind arith
