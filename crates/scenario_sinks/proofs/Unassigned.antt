-- The boxes that no sink has, as units go to others.
use Rattle.scenario_sinks.proofs.Prelude.{◌≡◌, ℕ, List, sym, ap, ◌∙◌, Option, Some, OthersSame, Histories, AllButSame, UnassignedSame}

-- units went to the box of a sink
pub all_but : {A : Type 0} (box : Option ℕ) (place : ℕ) (old new : List A) → box ≡ Some place → OthersSame place old new → AllButSame box old new
all_but box place old new is others other apart = others other (λ same. apart (is ∙ ap Some (sym same)))

-- the units of one sink more went to its box
pub unassigned_more : {A : Type 0} (past : Histories) (n : ℕ) (old mid new : List A) → UnassignedSame past old mid → AllButSame (past.boxes n) mid new → UnassignedSame past old new
unassigned_more past n old mid new first more place free = more place (free n) ∙ first place free
