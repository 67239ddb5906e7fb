-- The sinks of a scenario in version 2: their history is the same, where no train was answered `BadGroup 11` (Basic Audio Profile
-- 1.0, section 6.5). Lists of steps and of calls have the newest first.
use Rattle.scenario_laws.proofs.Known.Sources.{ℕ, ◌≡◌, ◌≤◌, ◌==◌, cond, Bool, List, [], ◌∷◌, Option, None, Some, refl, ◌∙◌, ap₂, arith, eqb-true, Settings, born, Step, calls_after, calls_at, made_by, made_of, named_by, train_by, calls_made, source_at, the_world, LinkCall as Call, AreQuietCalls, drained_same, quiet_drained, quiet_served, HearsNear, IsQuietHistory, made_with_horizon, at_second, same, second, seconds, sink_grows}

-- ---- the source that a line means

pub source_same : (made : List Step) → source_at (seconds made) ≡ source_at made
source_same made = search same

-- ---- the sink that a line made

-- the sink, but for the greatest horizon of a group, which is as great at least
pub record IsWider (made other : Settings) : Type 0 where
  pub horizon : ℕ
  pub within : made.setup.horizon ≤ horizon
  pub is : other ≡ made_with_horizon horizon made

-- the same of a sink that lives or not
abbrev pub AreWider : Option Settings → Option Settings → Type 0
AreWider None None = Unit {0}
AreWider (Some made) (Some other) = IsWider made other
AreWider _ _ = ⊥

wider_if : (b : Bool) (one two made other : Option Settings) → AreWider one two → AreWider made other
    → AreWider (cond b one made) (cond b two other)
wider_if b one two made other is wider = grind arith

wider_after : (n : ℕ) (step : Step) (earlier : List Step) (made other : Option Settings) → AreWider made other
    → AreWider (made_by n step earlier made) (made_by n (second step) (seconds earlier) other)
wider_after n (Step.Sink sink streams slots mtu) earlier made other wider = grind (arith, wider_if, seconds, sink_grows)
wider_after n this earlier made other wider = search (wider_if)

pub made_wider : (n : ℕ) (made : List Step) → AreWider (made_of n made) (made_of n (seconds made))
made_wider n [] = tt
made_wider n (step ∷ earlier) = wider_after n step earlier (made_of n earlier) (made_of n (seconds earlier)) (made_wider n earlier)

-- ---- trains that are heard

-- a train that the step hands a sink isn't answered `BadGroup 11`
abbrev pub IsCalm : List Step → Step → Type 0
IsCalm earlier step = (n : ℕ) → (made : Settings) → named_by step ≡ Some n → made_of n earlier ≡ Some made
    → HearsNear made (calls_made n earlier) (train_by (source_at earlier) step)

abbrev pub AreCalm : List Step → Type 0
AreCalm [] = Unit {0}
AreCalm (step ∷ earlier) = AreCalm earlier × IsCalm earlier step

-- no train in its history was answered so
abbrev pub QuietHistory : Option Settings → List Call → Type 0
QuietHistory None calls = Unit {0}
QuietHistory (Some made) calls = AreQuietCalls made.setup calls

quiet_if : (b : Bool) (one made : Option Settings) (first calls : List Call) → QuietHistory one first → QuietHistory made calls
    → QuietHistory (cond b one made) (cond b first calls)
quiet_if b one made first calls is quiet = grind arith

quiet_at : (n : ℕ) (named : Option ℕ) (step : Step) (earlier : List Step) (made : Option Settings) (calls : List Call)
    → QuietHistory made calls
    → ((sink : Settings) → named ≡ Some n → made ≡ Some sink → HearsNear sink calls (train_by (source_at earlier) step))
    → QuietHistory made (calls_at the_world n named step earlier made calls)
quiet_at n named this earlier made calls quiet near = grind (arith, eqb-true, quiet_served, quiet_drained)

quiet_after : (n : ℕ) (step : Step) (earlier : List Step) (made : Option Settings) (calls : List Call) → QuietHistory made calls
    → ((sink : Settings) → named_by step ≡ Some n → made ≡ Some sink → HearsNear sink calls (train_by (source_at earlier) step))
    → QuietHistory (made_by n step earlier made) (calls_after the_world n step earlier made calls)
quiet_after n (Step.Sink sink streams slots mtu) earlier made calls quiet near = grind (arith, quiet_if, born)
quiet_after n (Step.Drop sink) earlier made calls quiet near = quiet_if (sink == n) None made [] calls tt quiet
quiet_after n this earlier made calls quiet near = quiet_at n (named_by this) this earlier made calls quiet near

pub quiet_history : (n : ℕ) (made : List Step) → AreCalm made → QuietHistory (made_of n made) (calls_made n made)
quiet_history n [] calm = tt
quiet_history n (step ∷ earlier) calm =
    quiet_after n step earlier (made_of n earlier) (calls_made n earlier) (quiet_history n earlier calm.0) (λ it named is. calm.1 n it named is)

-- the sink's history in both versions
pub is_quiet : (made other : Settings) (calls : List Call) → (wider : IsWider made other) → AreQuietCalls made.setup calls
    → IsQuietHistory wider.horizon made calls
is_quiet made other calls wider quiet = record { within = wider.within; quiet = quiet }

-- ---- its history

at_same : (n : ℕ) (named : Option ℕ) (step : Step) (earlier : List Step) (made other : Option Settings) (calls others : List Call)
    → AreWider made other → QuietHistory made calls
    → others ≡ calls → calls_at the_world n named step (seconds earlier) other others ≡ calls_at the_world n named step earlier made calls
at_same n named this earlier made other calls others wider quiet same = grind (arith, same, ap₂, source_same, drained_same)

pub after_same : (n : ℕ) (step : Step) (earlier : List Step) (made other : Option Settings) (calls others : List Call) → AreWider made other
    → QuietHistory made calls → others ≡ calls
    → calls_after the_world n step (seconds earlier) other others ≡ calls_after the_world n step earlier made calls
after_same n (Step.Sink sink streams slots mtu) earlier made other calls others wider quiet same = cc (same)
after_same n this earlier made other calls others wider quiet same = search (at_same, same)

pub history_same : (n : ℕ) (made : List Step) → AreCalm made → calls_made n (seconds made) ≡ calls_made n made
history_same n [] calm = refl
history_same n (step ∷ earlier) calm =
    let other = made_of n (seconds earlier) in
    at_second (λ one two. calls_after the_world n two (seconds earlier) other (calls_made n (seconds earlier))
    ≡ calls_after the_world n one (seconds earlier) other (calls_made n (seconds earlier))) (λ version. refl) (λ same. refl) step
    ∙ after_same n step earlier (made_of n earlier) other (calls_made n earlier) (calls_made n (seconds earlier)) (made_wider n earlier)
    (quiet_history n earlier calm.0) (history_same n earlier calm.0)
