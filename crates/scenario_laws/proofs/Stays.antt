-- The stays of a sink: it is on the group of the source that it is of, by what fixes the source.
use Rattle.scenario_laws.proofs.Known.Sources.{ℕ, ◌≡◌, ◌⊎◌, ◌≤◌, ◌||◌, cond, Bool, true, false, List, [], ◌∷◌, Option, Some, refl, sym, ◌∙◌, ap, subst, arith, inl, inr, false≢true, or_parts, none-some, same_Some, iso_us_of, anchor_of, Setup, next_of, Call, tune, BigSync, Step, chosen_of, chosen_steps, steps_of_source, is_started, setup_of, source_calls, Airs, sink_calls, source_of, any_since, given_since_made, injected_since, is_given, is_injected, is_made, is_tuned, steps_before, place, has_beyond, Legal, Permitted, fails_not, permitted, sends, takes, true_not_false, goes, next_in, given_is_injected}
use Rattle.scenario_laws.proofs.Announced.{Announcing, as_by_hand}
use Rattle.scenario_laws.proofs.Becoming.{Puts, becomes, puts_first}

-- where the stay is on the source's group
pub record TunedTo (setup : Setup) (tuning : BigSync) : Type 0 where
  pub info : tuning.info ≡ setup.info
  pub first : setup.first ≤ tuning.first
  pub anchor : tuning.anchor ≡ anchor_of setup.origin setup.first tuning.first (iso_us_of setup.info)
  pub delay : tuning.delay ≡ setup.delay

-- ---- since a step that begins

-- what is not so since the last step that begins is not so by the last step, nor before it where that step begins nothing
pub last_not : (begins now rest : Bool) → cond begins now (now || rest) ≡ false → now ≡ false
last_not begins now rest clean = grind (arith, or_parts)

pub rest_not : (begins now rest : Bool) → cond begins now (now || rest) ≡ false → begins ≡ false → rest ≡ false
rest_not begins now rest clean is = grind (arith, false≢true, or_parts)

both_not : (begins now rest : Bool) → now ≡ false → (begins ≡ false → rest ≡ false) → cond begins now (now || rest) ≡ false
both_not begins now rest last before = grind (arith, false≢true)

-- where nothing was injected, no train was given
pub none_given : (begins : List Step → Step → Bool) (n : ℕ) (made : List Step) → injected_since begins n made ≡ false → any_since begins (is_given n) made ≡ false
none_given begins n [] clean = refl
none_given begins n (step ∷ earlier) clean =
    both_not (begins earlier step) (is_given n step) (any_since begins (is_given n) earlier)
    (given_is_injected n step (last_not (begins earlier step) (is_injected n step) (injected_since begins n earlier) clean))
    (λ begins_not. none_given begins n earlier (rest_not (begins earlier step) (is_injected n step) (injected_since begins n earlier) clean begins_not))

-- ---- where a sink is

-- the sink is there, on this source
pub record IsThere (s : ℕ) (tuning : BigSync) (calls : List Call) (source : Option ℕ) : Type 0 where
  pub place_is : place calls ≡ Some tuning
  pub source_is : source ≡ Some s

-- and no train was given to it since it was put there
pub record IsOn (airs : Airs) (s n : ℕ) (made : List Step) (tuning : BigSync) : Type 0 where
  pub place_is : place (sink_calls airs n made) ≡ Some tuning
  pub source_is : source_of n made ≡ Some s
  pub ungiven : any_since (is_tuned n) (is_given n) made ≡ false

-- the step puts the sink there, on this source
pub record BeginsBy (airs : Airs) (s n : ℕ) (step : Step) (earlier : List Step) (tuning : BigSync) : Type 0 where
  pub puts : Puts airs n step earlier
  pub on_is : puts.on ≡ tuning
  pub chosen_is : chosen_of earlier ≡ s

-- or it was there before, and the step begins nothing
pub record WasThere (airs : Airs) (s n : ℕ) (step : Step) (earlier : List Step) (tuning : BigSync) : Type 0 where
  pub there : IsThere s tuning (sink_calls airs n earlier) (source_of n earlier)
  pub begins_not : is_tuned n earlier step ≡ false
  pub made_not : is_made n earlier step ≡ false

pub there_before : (airs : Airs) (s n : ℕ) (step : Step) (earlier : List Step) (tuning : BigSync) → is_given n step ≡ false
    → IsThere s tuning (sink_calls airs n (step ∷ earlier)) (source_of n (step ∷ earlier)) → WasThere airs s n step earlier tuning ⊎ BeginsBy airs s n step earlier tuning
there_before airs s n step earlier tuning ungiven is = elim (becomes airs n step earlier ungiven) [
  | inl keeps ↦ inl (assumption (sym keeps.same_place ∙ is.place_is, sym keeps.same_source ∙ is.source_is))
  | inr moves ↦ elim moves [
    | inl parts ↦ absurd (none-some tuning (sym parts.nowhere ∙ is.place_is))
    | inr puts ↦ inr (record {
      puts = puts;
      on_is = same_Some puts.on tuning (sym (ap place puts.calls_is) ∙ is.place_is);
      chosen_is = same_Some (chosen_of earlier) s (sym puts.source_is ∙ is.source_is);
    })
  ]
]

pub on_before : (airs : Airs) (s n : ℕ) (step : Step) (earlier : List Step) (tuning : BigSync) → IsOn airs s n (step ∷ earlier) tuning
    → IsOn airs s n earlier tuning ⊎ BeginsBy airs s n step earlier tuning
on_before airs s n this earlier tuning is = grind (arith, there_before, last_not, is_tuned, is_given, any_since, rest_not)

pub begins_calls : (airs : Airs) (s n : ℕ) (step : Step) (earlier : List Step) (tuning : BigSync) → BeginsBy airs s n step earlier tuning
    → sink_calls airs n (step ∷ earlier) ≡ tune tuning ∷ sink_calls airs n earlier
begins_calls airs s n this earlier tuning begins = begins.puts.calls_is ∙ ap (λ on. tune on ∷ sink_calls airs n earlier) begins.on_is

-- what is not so since a sink was made is not so since the stay began
pub not_in_stay : (is_one : Step → Bool) (airs : Airs) (s n : ℕ) (made : List Step) (tuning : BigSync) → IsThere s tuning (sink_calls airs n made) (source_of n made)
    → given_since_made n made ≡ false → any_since (is_made n) is_one made ≡ false → any_since (is_tuned n) is_one made ≡ false
not_in_stay is_one airs s n [] tuning is ungiven clean = refl
not_in_stay is_one airs s n (step ∷ earlier) tuning is ungiven clean =
    both_not (is_tuned n earlier step) (is_one step) (any_since (is_tuned n) is_one earlier) (last_not (is_made n earlier step) (is_one step) (any_since (is_made n) is_one earlier) clean)
    (λ begins_not. elim (there_before airs s n step earlier tuning (last_not (is_made n earlier step) (is_given n step) (given_since_made n earlier) ungiven) is) [
      | inl before ↦ not_in_stay is_one airs s n earlier tuning before.there
          (rest_not (is_made n earlier step) (is_given n step) (given_since_made n earlier) ungiven before.made_not)
          (rest_not (is_made n earlier step) (is_one step) (any_since (is_made n) is_one earlier) clean before.made_not)
      | inr begins ↦ absurd (true_not_false (is_tuned n earlier step) (begins.puts.begins) begins_not)
    ])

-- a sink to which no train was given since it was made
pub on_since_made : (airs : Airs) (s n : ℕ) (made : List Step) (tuning : BigSync) → place (sink_calls airs n made) ≡ Some tuning → source_of n made ≡ Some s → given_since_made n made ≡ false
    → IsOn airs s n made tuning
on_since_made airs s n made tuning place_is source_is ungiven = grind (arith, not_in_stay, is_given)

-- ---- the stay is on the source's group

pub record OnSource (own : List Step) (tuning : BigSync) : Type 0 where
  pub started : is_started own ≡ true
  pub tuned : TunedTo (setup_of own) tuning
  pub streams : has_beyond (setup_of own).info.num_bis tuning.which ≡ false

pub begins_to : Announcing → (airs : Airs) (boxes s n : ℕ) (step : Step) (earlier : List Step) (tuning : BigSync) → Legal airs boxes earlier → Permitted airs boxes earlier step
    → BeginsBy airs s n step earlier tuning → OnSource (steps_of_source s earlier) tuning
begins_to laws airs boxes s n (Step.Tuned sink which) earlier tuning legal permits begins =
    grind (arith, takes, chosen_steps, fails_not, setup_of)
begins_to laws airs boxes s n (Step.Announce sink) earlier tuning legal permits begins =
    let by_hand = as_by_hand laws airs boxes n sink earlier begins.puts.by.0.big_sync legal permits begins.puts.by.0.brings in
    search (arith, (sends (chosen_steps earlier) permits.in_phase), (sym by_hand.0 ∙ begins.puts.by.1 ∙ begins.on_is))
begins_to laws airs boxes s n _ earlier tuning legal permits begins = absurd begins.puts.by

-- such a stay begins with the source's next event
pub begins_next : Announcing → (airs : Airs) (boxes s n : ℕ) (step : Step) (earlier : List Step) (tuning : BigSync) → Legal airs boxes earlier → Permitted airs boxes earlier step
    → BeginsBy airs s n step earlier tuning → tuning.first ≡ next_in (steps_of_source s earlier)
begins_next laws airs boxes s n step earlier tuning legal permits begins =
    grind (arith, begins.on_is, puts_first laws airs boxes n step earlier legal permits begins.puts, begins.chosen_is)

still_to : (airs : Airs) (boxes s : ℕ) (step : Step) (earlier : List Step) (tuning : BigSync) → Legal airs boxes (step ∷ earlier) → OnSource (steps_of_source s earlier) tuning
    → OnSource (steps_of_source s (step ∷ earlier)) tuning
still_to airs boxes s step earlier tuning legal on =
    let more = goes airs boxes s earlier step legal on.started in
    assumption (
      subst (λ (setup : Setup). TunedTo setup tuning) (sym more.setup_is) on.tuned,
      subst (λ (setup : Setup). has_beyond setup.info.num_bis tuning.which ≡ false) (sym more.setup_is) on.streams,
    )

-- a sink on a group is on that of its source, which was started
pub on_source : Announcing → (airs : Airs) (boxes s n : ℕ) (made : List Step) (tuning : BigSync) → Legal airs boxes made → IsOn airs s n made tuning → OnSource (steps_of_source s made) tuning
on_source laws airs boxes s n [] tuning legal is = absurd (none-some tuning is.place_is)
on_source laws airs boxes s n (step ∷ earlier) tuning legal is = still_to airs boxes s step earlier tuning legal (elim (on_before airs s n step earlier tuning is) [
  | inl before ↦ on_source laws airs boxes s n earlier tuning legal.0 before
  | inr begins ↦ begins_to laws airs boxes s n step earlier tuning legal.0 (permitted airs boxes earlier step legal.1) begins
])

-- the first event of a stay was the source's next one as the stay began
stays_first : (airs : Airs) (boxes s n : ℕ) (step : Step) (earlier : List Step) (tuning : BigSync) → Legal airs boxes (step ∷ earlier) → is_started (steps_of_source s earlier) ≡ true
    → (begins : Bool) → is_tuned n earlier step ≡ begins → (before : List Step)
    → tuning.first ≡ next_of (setup_of (steps_of_source s earlier)) (source_calls (steps_of_source s before)) → cond begins earlier (steps_before (is_tuned n) earlier) ≡ before
    → tuning.first ≡ next_of (setup_of (steps_of_source s (step ∷ earlier))) (source_calls (steps_of_source s (steps_before (is_tuned n) (step ∷ earlier))))
stays_first airs boxes s n step earlier tuning legal started begins is before first same =
    cc (first, (goes airs boxes s earlier step legal started).setup_is, same, is)

pub first_next : Announcing → (airs : Airs) (boxes s n : ℕ) (made : List Step) (tuning : BigSync) → Legal airs boxes made → IsOn airs s n made tuning
    → tuning.first ≡ next_of (setup_of (steps_of_source s made)) (source_calls (steps_of_source s (steps_before (is_tuned n) made)))
first_next laws airs boxes s n [] tuning legal is = absurd (none-some tuning is.place_is)
first_next laws airs boxes s n (step ∷ earlier) tuning legal is =
    elim (there_before airs s n step earlier tuning (last_not (is_tuned n earlier step) (is_given n step) (any_since (is_tuned n) (is_given n) earlier) is.ungiven)
    (record { place_is = is.place_is; source_is = is.source_is })) [
      | inl was ↦
          let before : IsOn airs s n earlier tuning =
          assumption (rest_not (is_tuned n earlier step) (is_given n step) (any_since (is_tuned n) (is_given n) earlier) is.ungiven was.begins_not) in
          stays_first airs boxes s n step earlier tuning legal (on_source laws airs boxes s n earlier tuning legal.0 before).started false was.begins_not (steps_before (is_tuned n) earlier)
          (first_next laws airs boxes s n earlier tuning legal.0 before) refl
      | inr begins ↦
          let permits : Permitted airs boxes earlier step = permitted airs boxes earlier step legal.1 in
          stays_first airs boxes s n step earlier tuning legal (begins_to laws airs boxes s n step earlier tuning legal.0 permits begins).started true
          (begins.puts.begins) earlier (begins_next laws airs boxes s n step earlier tuning legal.0 permits begins) refl
    ]
