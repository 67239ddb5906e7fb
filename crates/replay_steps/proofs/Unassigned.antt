-- The boxes that no sink took, as events are closed.
use Rattle.replay_steps.proofs.Prelude.{◌<◌, List, ◌∙◌, arith, Step, sinks_made, box_was_made, histories_of, ◌≡◌, ◌≤◌, [], ◌∷◌, ◌++◌, reverse, ap, refl, Option, None, Some, TextLine, Account, airs_of, Airs, Refusal, accepted_accepted, rules_of, said_of, steps_of, sinks_happened, UnassignedBy, UnassignedRun}
use Rattle.scenario_sinks.specs.Unassigned as sinks
use Rattle.replay_steps.specs.Unassigned.{UnassignedSame}
use Rattle.scenario_history.specs.Runs.{Accepted, accepted_of, accepted_unless}

-- a box behind those that were taken is that of no sink
pub unassigned_in : {A : Type 0} (steps : List Step) (old new : List A) → sinks.UnassignedSame (histories_of steps) old new → UnassignedSame steps old new
unassigned_in steps old new same box least = same box (λ n is. let made : box < sinks_made steps = box_was_made n steps box is in omega arith)

pub unassigned_then : {A : Type 0} (steps : List Step) (old mid new : List A) → UnassignedSame steps old mid → UnassignedSame steps mid new → UnassignedSame steps old new
unassigned_then steps old mid new first second box least = second box least ∙ first box least

-- ---- a line more takes no box back

pub made_line : (airs : Airs) (line : TextLine) (history : List TextLine)
    → sinks_made (steps_of airs history) ≤ sinks_made (steps_of airs (line ∷ history))
made_line airs line history = grind (arith, sinks_happened)

module _ (airs : Airs) (starts : List Account) where
  by_refusal : (line : TextLine) (history later : List TextLine) → sinks_made (steps_of airs (line ∷ history)) ≤ sinks_made (steps_of airs later)
      → (why : Option Refusal) → sinks_made (steps_of airs history) ≤ sinks_made (steps_of airs (accepted_unless history why later))
  by_refusal line history later more (Some reason) = omega arith
  by_refusal line history later more None = let here = made_line airs line history in omega (arith, here, more)

  made_more : (history lines : List TextLine) → sinks_made (steps_of airs history) ≤ sinks_made (steps_of airs (accepted_of (rules_of airs starts) history lines))
  made_more history [] = omega arith
  made_more history (line ∷ lines) =
      by_refusal line history (accepted_of (rules_of airs starts) (line ∷ history) lines) (made_more (line ∷ history) lines) ((rules_of airs starts).refusal history line)

  -- what the lines that were run took is no more than what all accepted lines take
  pub unassigned_by : {A : Type 0} (lines earlier later : List TextLine) (old new : List A) → lines ≡ reverse earlier ++ later → Accepted (rules_of airs starts) earlier
      → UnassignedSame (steps_of airs earlier) old new → UnassignedBy airs starts lines old new
  unassigned_by lines earlier later old new split accepted same box least =
      let all : accepted_of (rules_of airs starts) [] lines ≡ accepted_of (rules_of airs starts) earlier later =
      ap (accepted_of (rules_of airs starts) []) split ∙ accepted_accepted (rules_of airs starts) earlier later accepted in
      let more = made_more earlier later in
      same box (omega (arith, more, ap (λ ls. sinks_made (steps_of airs ls)) all, least))

-- the same over any airs that accept what these do
pub unassigned_run : {A : Type 0} (airs : Airs) (starts : List Account) (lines : List TextLine) (old new : List A)
    → ((history : List TextLine) → Accepted (rules_of airs_of starts) history → Accepted (rules_of airs starts) history)
    → UnassignedRun starts lines old new → UnassignedBy airs starts lines old new
unassigned_run airs starts lines old new accepted run =
    unassigned_by airs starts lines run.earlier run.later old new run.split (accepted run.earlier run.accepted)
    (grind (arith, sinks_happened, said_of, airs_of))

-- the line after these was run, and only sinks of theirs have boxes
pub unassigned_line : {A : Type 0} (line : TextLine) (history : List TextLine) (old mid new : List A) → UnassignedSame (steps_of airs_of history) old mid
    → UnassignedSame (steps_of airs_of history) mid new → UnassignedSame (steps_of airs_of (line ∷ history)) old new
unassigned_line line history old mid new before here box least = grind (arith, made_line, airs_of, sinks_made, steps_of)

-- no line was run
pub none_run : {A : Type 0} (starts : List Account) (lines : List TextLine) (boxes : List A) → UnassignedRun starts lines boxes boxes
none_run starts lines boxes = record { earlier = []; later = lines; split = refl; accepted = tt; same = λ box least. refl }
