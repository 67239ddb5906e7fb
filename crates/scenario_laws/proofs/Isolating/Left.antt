-- A step that is left out changes nothing of the sink and of the source: it names another sink, or it means another source and puts
-- the sink on no train and no group.
use Rattle.scenario_laws.proofs.Known.Sources.{ℕ, ◌≡◌, cond, not, Bool, true, List, [], ◌∷◌, Option, None, arith, false≢true, append-nil, Settings, Call, Step, box_of, handed_by, is_of, sink_calls, source_of, Airs, chosen_given, steps_of_source, calls_made, made_of, version_given, units_by, is_other, sink_in, ◌≢◌, ◌==◌, ◌&&◌, false, Some, refl, ap, and_right, ne_eqb, cond-false, train_heard, TrainOutcome, Train, big_sync_in, ticked_if, open_event, chosen_of, chosen_steps, is_source_line, source_at, Source, given_train, calls_by, own_train, follows, follows_by, received_by, train_by, puts, alike_itself, ignores, SourceSaid as Said, source_said_after as said_after, source_said_of as said_of, said_stays, HistoriesAlike, Same, left_took, units_append, closing_none, same_if, LinkCall}

-- ---- what a step leaves

pub record Leaves (airs : Airs) (s n : ℕ) (step : Step) (made : List Step) : Type 0 where
  pub chosen : chosen_given step ≡ None
  pub own : said_of (steps_of_source s (step ∷ made)) ≡ said_of (steps_of_source s made)
  pub version : version_given step ≡ None
  pub sink : made_of n (step ∷ made) ≡ made_of n made
  pub lives : HistoriesAlike (made_of n made) (calls_made n (step ∷ made)) (calls_made n made)
  pub source : source_of n (step ∷ made) ≡ source_of n made
  pub calls : sink_calls airs n (step ∷ made) ≡ sink_calls airs n made
  pub boxed : box_of n (step ∷ made) ≡ box_of n made
  pub units : units_by n (handed_by airs made step) ≡ []

pub lives_itself : (made : Option Settings) (a : List LinkCall) → HistoriesAlike made a a
lives_itself made a = grind (arith, alike_itself)

pub left_out : (airs : Airs) (s n : ℕ) (step : Step) (made others : List Step) → Leaves airs s n step made → Same airs s n made others
    → Same airs s n (step ∷ made) others
left_out airs s n this made others leaves same = grind (arith, units_append, append-nil, left_took)

-- ---- another sink is named

pub record Quiet (step : Step) : Type 0 where
  pub chosen : chosen_given step ≡ None
  pub version : version_given step ≡ None
  pub says : (said : Said) → said_after step said ≡ said
  pub hands : (airs : Airs) (made : List Step) → handed_by airs made step ≡ []

-- a step that names a sink says nothing of a source
quiet : (n : ℕ) (step : Step) → is_other n (sink_in step) ≡ true → Quiet step
quiet n this other = grind (arith, false≢true)

pub another_sink : (airs : Airs) (s n : ℕ) (step : Step) (made : List Step) → is_other n (sink_in step) ≡ true → Leaves airs s n step made
another_sink airs s n this made other = grind (arith, quiet, said_stays, false≢true)

-- ---- a line that means another source, and puts the sink on no train and no group, changes nothing of the sink and of the source

-- ---- a source line is no common step, and neither makes nor drops a sink

-- ---- a train that isn't followed

train_lives : (hit : Bool) (source : Source) (train : Train) (made : Option Settings) (a : List LinkCall)
    → (hit && follows_by source (Some train) made a) ≡ false → HistoriesAlike made (cond hit (LinkCall.stepped (train_heard train) ∷ a) a) a
train_lives true source train None a not = tt
train_lives true source train (Some made) a not = ignores made.setup made.mtu train a not
train_lives false source train made a not = lives_itself made a

not_joined : (brought : TrainOutcome) → follows brought ≡ false → big_sync_in brought ≡ None
not_joined brought not = grind (arith, false≢true)

train_received : (hit : Bool) (source : Source) (line : Step) (train : Train) (made : Option Settings) (a a' : List LinkCall) (calls : List Call)
    → train_by source line ≡ Some train → (hit && follows_by source (Some train) made a) ≡ false → HistoriesAlike made (cond hit a' a) a
    → cond hit (received_by source line made a (cond hit a' a) calls) calls ≡ calls
train_received hit source line train made a a' calls is not same = grind (arith, not_joined)

-- ---- the history

history_stays : (n : ℕ) (step : Step) (made : List Step) → is_source_line step ≡ true → puts n made step ≡ false
    → HistoriesAlike (made_of n made) (calls_made n (step ∷ made)) (calls_made n made)
history_stays n (Step.Announce sink) made is not =
    train_lives (sink == n) (source_at made) (own_train (source_at made)) (made_of n made) (calls_made n made) not
history_stays n (Step.Train sink time ext adv acad) made is not =
    train_lives (sink == n) (source_at made) (given_train (source_at made) time ext adv acad) (made_of n made) (calls_made n made) not
history_stays n _ made is not = search (cond-false, same_if, false≢true, lives_itself (made_of n made) (calls_made n made))

-- ---- its receivers, where it isn't of the source that the line means

calls_stay : (airs : Airs) (n : ℕ) (step : Step) (made : List Step) → is_source_line step ≡ true → puts n made step ≡ false
    → is_of (chosen_of made) (source_of n made) ≡ false → sink_calls airs n (step ∷ made) ≡ sink_calls airs n made
calls_stay airs n (Step.Announce sink) made is not apart =
    train_received (sink == n) (source_at made) (Step.Announce sink) (own_train (source_at made)) (made_of n made) (calls_made n made)
    (calls_by (source_at made) (Step.Announce sink) (made_of n made) (calls_made n made)) (sink_calls airs n made) refl not
    (history_stays n (Step.Announce sink) made is not)
calls_stay airs n (Step.Train sink time ext adv acad) made is not apart =
    train_received (sink == n) (source_at made) (Step.Train sink time ext adv acad) (given_train (source_at made) time ext adv acad)
    (made_of n made) (calls_made n made)
    (calls_by (source_at made) (Step.Train sink time ext adv acad) (made_of n made) (calls_made n made)) (sink_calls airs n made) refl not
    (history_stays n (Step.Train sink time ext adv acad) made is not)
calls_stay airs n _ made is not apart =
    search (cond-false, and_right, false≢true, (ap (λ its. ticked_if its (open_event (chosen_steps made)) (sink_calls airs n made)) apart))

-- ---- what it hands up

pub elsewhere : (airs : Airs) (s n : ℕ) (step : Step) (made : List Step) → is_source_line step ≡ true → chosen_of made ≢ s
    → puts n made step ≡ false → is_of (chosen_of made) (source_of n made) ≡ false → Leaves airs s n step made
elsewhere airs s n this made is other not apart =
    grind (arith, and_right, ne_eqb, history_stays, not, cond-false, calls_stay, false≢true, closing_none)
