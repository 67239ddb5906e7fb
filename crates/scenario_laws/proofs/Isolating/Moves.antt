-- What a line makes of two histories of the sink that it names which come to the same: of the histories, of the receivers, and of the
-- source that the sink is of.
use Rattle.scenario_laws.proofs.Known.Sources.Steps.Prelude.{ℕ, ◌≡◌, cond, Bool, true, List, [], ◌∷◌, Option, None, Some, subst, arith, Settings, Train, outcome_by, born, Step, is_source_line, calls_made, source_at, the_world, Source, calls_at, calls_by, made_of, named_by, follows, follows_by, source_by, train_by, LinkCall as Call}
use Rattle.scenario_laws.proofs.Isolating.Histories.{Alike, alike_itself, drains, grows}
use Rattle.scenario_laws.proofs.Isolating.Same.{HistoriesAlike}
use Rattle.bass_operations.specs.declared.operation.Operation.TheVariants as operations
use Rattle.group_sink.specs.Calls as sinks

-- ---- a line takes something of a source only where it is a source line

-- where the line is a source line both have the same source
abbrev pub Sourced : Step → (source source' : Source) → Type 0
Sourced line source source' = is_source_line line ≡ true → source ≡ source'

-- ---- the histories

called_some : (source : Source) (line : Step) (made : Settings) (a b : List Call) → Alike made.setup made.mtu a b
    → Alike made.setup made.mtu (calls_by source line (Some made) a) (calls_by source line (Some made) b)
called_some source (Step.Drop sink) made a b same = alike_itself made.setup made.mtu []
called_some source _ made a b same = search (grows, drains)

named_lives : (n : ℕ) (named : Option ℕ) (line : Step) (earlier others : List Step) (made : Option Settings) (a b : List Call)
    → Sourced line (source_at earlier) (source_at others) → HistoriesAlike made a b
    → HistoriesAlike made (calls_at the_world n named line earlier made a) (calls_at the_world n named line others made b)
named_lives n named line earlier others made a b sourced same = grind (arith, called_some, calls_by)

born_lives : (hit : Bool) (new : Settings) (mtu : Option ℕ) (made : Option Settings) (a b : List Call) → HistoriesAlike made a b
    → HistoriesAlike (cond hit (Some new) made) (cond hit (born mtu) a) (cond hit (born mtu) b)
born_lives hit new mtu made a b same = grind (arith, alike_itself)

gone_lives : (hit : Bool) (made : Option Settings) (a b : List Call) → HistoriesAlike made a b
    → HistoriesAlike (cond hit None made) (cond hit [] a) (cond hit [] b)
gone_lives hit made a b same = grind arith

-- over two lists of steps
pub history_grows : (n : ℕ) (step : Step) (earlier others : List Step) → Sourced step (source_at earlier) (source_at others)
    → made_of n earlier ≡ made_of n others → HistoriesAlike (made_of n earlier) (calls_made n earlier) (calls_made n others)
    → HistoriesAlike (made_of n (step ∷ earlier)) (calls_made n (step ∷ earlier)) (calls_made n (step ∷ others))
history_grows n (Step.Sink sink streams slots mtu) earlier others sourced sink_same same = search (born_lives)
history_grows n (Step.Drop sink) earlier others sourced sink_same same = search (gone_lives)
history_grows n step earlier others sourced sink_same same =
    subst (λ made. HistoriesAlike (made_of n earlier) (calls_at the_world n (named_by step) step earlier (made_of n earlier) (calls_made n earlier))
    (calls_at the_world n (named_by step) step others made (calls_made n others))) sink_same
    (named_lives n (named_by step) step earlier others (made_of n earlier) (calls_made n earlier) (calls_made n others) sourced same)

-- ---- the receivers

pub cond_same : {A : Type 0} (hit : Bool) (x x' y y' : A) → x ≡ x' → y ≡ y' → cond hit x y ≡ cond hit x' y'
cond_same hit x x' y y' then otherwise = cc

-- ---- the source that the sink is of

follows_same : (source : Source) (train : Option Train) (made : Option Settings) (a b : List Call) → HistoriesAlike made a b
    → follows_by source train made a ≡ follows_by source train made b
follows_same source train made a b same = grind (arith, follows, outcome_by)

pub sourced_same : (line : Step) (source source' : Source) (made made' : Option Settings) (a b : List Call) (its its' : Option ℕ)
    → source ≡ source' → made ≡ made'
    → HistoriesAlike made a b → its ≡ its' → source_by source line made a its ≡ source_by source' line made' b its'
sourced_same line source source' made made' a b its its' sources sinks_same same of_same = grind (arith, follows_same, train_by)
