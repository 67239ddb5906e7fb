-- What a line makes of a sink that it names by its control or by its links: its receivers stay or leave, or a train puts them on
-- a group; and a sink that follows a train on no group may be of another source then.
use Rattle.scenario_laws.proofs.Known.Sources.Steps.Prelude.{ℕ, ◌≡◌, ◌⊎◌, ◌==◌, cond, Bool, true, false, List, ◌∷◌, Option, None, Some, is_some, refl, ap, inl, inr, arith, by_numbers, with_leave, with_step, Snapshot, TrainOutcome, Settings, Train, heard, ignored, outcome_by, big_sync_in, BigSync, Call, leave, tune, has_group, Step, Source, made_of, named_by, own_train, brings_by, follows, big_sync_of, received_by, source_by, train_by, snapshot_in, Airs, sink_calls, source_after, source_of, with_sink_call, chosen_of, calls_made, source_at, is_tuned, taken, place, moved, LinkCall, is_made, is_injected, is_given}
use Rattle.scenario_laws.proofs.Places.{Nowhere, nowhere}

-- ---- what becomes of the receivers

-- they take nothing, or leave their group
abbrev pub Left : List Call → List Call → Type 0
Left later calls = (later ≡ calls) ⊎ (later ≡ leave ∷ calls)

-- no stay begins
pub record Stays (begins : Bool) (calls later : List Call) (source source' : Option ℕ) : Type 0 where
  pub left : Left later calls
  pub same : source' ≡ source
  pub begins_not : begins ≡ false

-- the sink follows a train of this source, on no group
pub record Follows (chosen : ℕ) (begins : Bool) (calls later : List Call) (source' : Option ℕ) : Type 0 where
  pub same : later ≡ calls
  pub nowhere : place calls ≡ None
  pub source_is : source' ≡ Some chosen
  pub begins_not : begins ≡ false

-- a train of this source synchronizes it to a BIG
pub record Put (Brings : BigSync → Type 0) (chosen : ℕ) (begins : Bool) (calls later : List Call) (source' : Option ℕ) : Type 0 where
  pub big_sync : BigSync
  pub brings : Brings big_sync
  pub calls_is : later ≡ tune (by_numbers big_sync) ∷ calls
  pub source_is : source' ≡ Some chosen
  pub begins_is : begins ≡ true

abbrev pub Went : (BigSync → Type 0) → ℕ → Bool → (calls later : List Call) → (source source' : Option ℕ) → Type 0
Went Brings chosen begins calls later source source' =
    Stays begins calls later source source' ⊎ (Follows chosen begins calls later source' ⊎ Put Brings chosen begins calls later source')

-- by the step after these
abbrev pub StaysBy : Airs → ℕ → Step → List Step → Type 0
StaysBy airs n step earlier =
    Stays (is_tuned n earlier step) (sink_calls airs n earlier) (sink_calls airs n (step ∷ earlier)) (source_of n earlier) (source_of n (step ∷ earlier))

-- ---- a line that hands the sink no train

pub plain_stays : (airs : Airs) (n : ℕ) (step : Step) (earlier : List Step) → train_by (source_at earlier) step ≡ None
    → moved n (named_by step) step earlier (sink_calls airs n earlier) ≡ with_sink_call airs n step earlier (sink_calls airs n earlier)
    → source_after n step earlier (source_of n earlier) ≡ source_of n earlier → is_tuned n earlier step ≡ false → StaysBy airs n step earlier
plain_stays airs n this earlier none is same begins_not = grind (arith, sink_calls, named_by)

pub same_if : {A : Type 0} (hit : Bool) (x : A) → cond hit x x ≡ x
same_if hit x = grind arith

-- whether a step makes the sink is the same whatever came before
pub made_alike : (n : ℕ) (one other : List Step) (step : Step) → is_made n one step ≡ is_made n other step
made_alike n one other this = cc

pub given_is_injected : (n : ℕ) (step : Step) → is_injected n step ≡ false → is_given n step ≡ false
given_is_injected n _ clean = grind arith

-- a train that is given to another sink
pub given_stays : (airs : Airs) (n sink time : ℕ) (ext adv acad : List ℕ) (earlier : List Step) → (sink == n) ≡ false → StaysBy airs n (Step.Train sink time ext adv acad) earlier
given_stays airs n sink time ext adv acad earlier other = search arith

-- ---- a train that is announced

-- what the source of a line announces synchronizes a sink, of this history, to this BIG
pub record BroughtTo (source : Source) (lives : List LinkCall) (big_sync : BigSync) : Type 0 where
  pub made : Settings
  pub is : big_sync_of made (snapshot_in made lives) (Some (own_train source)) ≡ Some big_sync

by_train : (source : Source) (lives : List LinkCall) (made : Settings) (later : Snapshot) (calls : List Call) (its_source : Option ℕ)
    → (has_group (snapshot_in made lives).place ≡ false → place calls ≡ None) → (brought : TrainOutcome) → outcome_by made.setup (snapshot_in made lives) (own_train source) ≡ brought
    → Went (BroughtTo source lives) source.number (is_some (big_sync_in brought)) calls (with_step (big_sync_in brought) (snapshot_in made lives) later calls)
    its_source (cond (follows brought) (Some source.number) its_source)
by_train source lives made later calls its_source nowhere (ignored answer) is = grind (arith, has_group, snapshot_in)
by_train source lives made later calls its_source nowhere (heard slot answer encrypted) is =
    let off : has_group (snapshot_in made lives).place ≡ false = grind arith in
    inr (inl (assumption (ap (λ was. with_leave was (has_group later.place) calls) off, nowhere off)))
by_train source lives made later calls its_source nowhere (taken slot bits encrypted big_sync) is =
    inr (inr (record { big_sync = big_sync; brings = record { made = made; is = ap big_sync_in is }; calls_is = refl; source_is = refl; begins_is = refl }))

by_made : (source : Source) (n : ℕ) (here there : List LinkCall) (made : Option Settings) (calls : List Call) (its_source : Option ℕ)
    → Nowhere made here calls
    → Went (BroughtTo source here) source.number (brings_by source (Step.Announce n) made here) calls (received_by source (Step.Announce n) made here there calls)
    its_source (source_by source (Step.Announce n) made here its_source)
by_made source n here there None calls its_source nowhere = inl (record { left = inl refl; same = refl; begins_not = refl })
by_made source n here there (Some made) calls its_source nowhere = search (by_train, nowhere)

-- `announce` names the sink of this number, and synchronizes it to this BIG
abbrev pub Brings : ℕ → ℕ → List Step → BigSync → Type 0
Brings n sink earlier big_sync = ((sink == n) ≡ true) × BroughtTo (source_at earlier) (calls_made n earlier) big_sync

abbrev pub PutBy : Airs → ℕ → ℕ → List Step → Type 0
PutBy airs n sink earlier =
    Put (Brings n sink earlier) (chosen_of earlier) (is_tuned n earlier (Step.Announce sink)) (sink_calls airs n earlier) (sink_calls airs n (Step.Announce sink ∷ earlier))
    (source_of n (Step.Announce sink ∷ earlier))

abbrev pub FollowsBy : Airs → ℕ → ℕ → List Step → Type 0
FollowsBy airs n sink earlier =
    Follows (chosen_of earlier) (is_tuned n earlier (Step.Announce sink)) (sink_calls airs n earlier) (sink_calls airs n (Step.Announce sink ∷ earlier))
    (source_of n (Step.Announce sink ∷ earlier))

pub announced : (airs : Airs) (n sink : ℕ) (earlier : List Step) → StaysBy airs n (Step.Announce sink) earlier ⊎ (FollowsBy airs n sink earlier ⊎ PutBy airs n sink earlier)
announced airs n sink earlier =
    grind (
      arith,
      follows,
      (by_made (source_at earlier) sink (calls_made n earlier) (calls_made n (Step.Announce sink ∷ earlier))
          (made_of n earlier) (sink_calls airs n earlier) (source_of n earlier) (nowhere airs n earlier)),
    )
