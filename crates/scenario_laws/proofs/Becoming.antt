-- What a step makes of the group that a sink is on: the sink stays there, or is on none then, or the step puts it on one.
use Rattle.scenario_laws.proofs.Known.Sources.{arith, ℕ, ◌≡◌, ◌⊎◌, ◌==◌, cond, true, false, List, [], ◌∷◌, None, Some, refl, sym, ◌∙◌, ap, inl, inr, cases_Bool, tune, BigSync, Step, chosen_of, chosen_steps, Airs, sink_calls, source_of, big_sync_on, handed_by, closed_by, is_given, is_made, is_tuned, place, Legal, Permitted, PutBy, StaysBy, announced, given_stays, plain_stays, air_place, same_place, tick_if_place, next_in}
use Rattle.scenario_laws.proofs.Announced.{as_by_hand, Announcing}
use Rattle.delegator_machine.specs.Groups as machine

-- the sink stays on its group, or on none, and of its source
pub record Keeps (airs : Airs) (n : ℕ) (step : Step) (earlier : List Step) : Type 0 where
  pub begins_not : is_tuned n earlier step ≡ false
  pub made_not : is_made n earlier step ≡ false
  pub same_source : source_of n (step ∷ earlier) ≡ source_of n earlier
  pub same_place : place (sink_calls airs n (step ∷ earlier)) ≡ place (sink_calls airs n earlier)

-- the step hands up nothing and closes no event
pub record Silent (airs : Airs) (n : ℕ) (step : Step) (earlier : List Step) : Type 0 where
  pub hands : (made : List Step) → handed_by airs made step ≡ []
  pub closes : (s : ℕ) → closed_by airs s n earlier step ≡ []

-- the sink is on no group then
pub record Parts (airs : Airs) (n : ℕ) (step : Step) (earlier : List Step) : Type 0 where
  pub silent : Silent airs n step earlier
  pub nowhere : place (sink_calls airs n (step ∷ earlier)) ≡ None

abbrev pub PutsBy : Airs → ℕ → Step → List Step → BigSync → Type 0
PutsBy airs n (Step.Tuned sink which) earlier on = (big_sync_on (chosen_steps earlier) which ≡ on) × ((sink == n) ≡ true)
PutsBy airs n (Step.Announce sink) earlier on = (put : PutBy airs n sink earlier) × (machine.by_numbers put.big_sync ≡ on)
PutsBy airs n _ earlier on = ⊥

-- the step synchronizes the sink to a BIG, by hand or by a train
pub record Puts (airs : Airs) (n : ℕ) (step : Step) (earlier : List Step) : Type 0 where
  pub on : BigSync
  pub silent : Silent airs n step earlier
  pub begins : is_tuned n earlier step ≡ true
  pub calls_is : sink_calls airs n (step ∷ earlier) ≡ tune on ∷ sink_calls airs n earlier
  pub source_is : source_of n (step ∷ earlier) ≡ Some (chosen_of earlier)
  pub by : PutsBy airs n step earlier on

abbrev pub Becomes : Airs → ℕ → Step → List Step → Type 0
Becomes airs n step earlier = Keeps airs n step earlier ⊎ (Parts airs n step earlier ⊎ Puts airs n step earlier)

kept : (airs : Airs) (n : ℕ) (step : Step) (earlier : List Step) → is_tuned n earlier step ≡ false → is_made n earlier step ≡ false
    → source_of n (step ∷ earlier) ≡ source_of n earlier → place (sink_calls airs n (step ∷ earlier)) ≡ place (sink_calls airs n earlier) → Becomes airs n step earlier
kept airs n this earlier begins_not made_not same_source same_place = grind (arith, same_place)

gone : (airs : Airs) (n : ℕ) (step : Step) (earlier : List Step) → Silent airs n step earlier → place (sink_calls airs n (step ∷ earlier)) ≡ None → Becomes airs n step earlier
gone airs n this earlier silent nowhere = inr (inl (record { silent = silent; nowhere = nowhere }))

stayed : (airs : Airs) (n : ℕ) (step : Step) (earlier : List Step) → Silent airs n step earlier → is_made n earlier step ≡ false → StaysBy airs n step earlier → Becomes airs n step earlier
stayed airs n this earlier silent made_not stays = grind (arith, kept, gone)

pub becomes : (airs : Airs) (n : ℕ) (step : Step) (earlier : List Step) → is_given n step ≡ false → Becomes airs n step earlier
becomes airs n (Step.Sink sink streams slots mtu) earlier ungiven = elim (cases_Bool (sink == n)) [
  | inl again ↦ gone airs n (Step.Sink sink streams slots mtu) earlier (record { hands = λ made. refl; closes = λ s. refl }) (ap (λ b. place (cond b [] (sink_calls airs n earlier))) again)
  | inr other ↦
      kept airs n (Step.Sink sink streams slots mtu) earlier refl other
      (ap (λ b. cond b None (source_of n earlier)) other) (ap (λ b. place (cond b [] (sink_calls airs n earlier))) other)
]
becomes airs n (Step.Drop sink) earlier ungiven = elim (cases_Bool (sink == n)) [
  | inl again ↦ gone airs n (Step.Drop sink) earlier (record { hands = λ made. refl; closes = λ s. refl }) (ap (λ b. place (cond b [] (sink_calls airs n earlier))) again)
  | inr other ↦
      kept airs n (Step.Drop sink) earlier refl refl
      (ap (λ b. cond b None (source_of n earlier)) other) (ap (λ b. place (cond b [] (sink_calls airs n earlier))) other)
]
becomes airs n (Step.Tuned sink which) earlier ungiven = elim (cases_Bool (sink == n)) [
  | inl put ↦ inr (inr (record {
    on = big_sync_on (chosen_steps earlier) which;
    silent = record { hands = λ made. refl; closes = λ s. refl };
    begins = put;
    calls_is = ap (λ b. cond b (tune (big_sync_on (chosen_steps earlier) which) ∷ sink_calls airs n earlier) (sink_calls airs n earlier)) put;
    source_is = ap (λ b. cond b (Some (chosen_of earlier)) (source_of n earlier)) put;
    by = (refl, put);
  }))
  | inr other ↦
      kept airs n (Step.Tuned sink which) earlier other refl (ap (λ b. cond b (Some (chosen_of earlier)) (source_of n earlier)) other)
      (ap (λ b. place (cond b (tune (big_sync_on (chosen_steps earlier) which) ∷ sink_calls airs n earlier) (sink_calls airs n earlier))) other)
]
becomes airs n (Step.Announce sink) earlier ungiven = elim (announced airs n sink earlier) [
  | inl stays ↦ stayed airs n (Step.Announce sink) earlier (record { hands = λ made. refl; closes = λ s. refl }) refl stays
  | inr goes ↦ elim goes [
    | inl follows ↦ gone airs n (Step.Announce sink) earlier (record { hands = λ made. refl; closes = λ s. refl }) (ap place follows.same ∙ follows.nowhere)
    | inr put ↦ inr (inr (record {
      on = machine.by_numbers put.big_sync;
      silent = record { hands = λ made. refl; closes = λ s. refl };
      begins = put.begins_is;
      calls_is = put.calls_is;
      source_is = put.source_is;
      by = (put, refl);
    }))
  ]
]
becomes airs n this earlier ungiven = search (kept, same_place, air_place, tick_if_place, stayed, given_stays, plain_stays)

-- the group's first event is the source's next one
pub puts_first : Announcing → (airs : Airs) (boxes n : ℕ) (step : Step) (earlier : List Step) → Legal airs boxes earlier → Permitted airs boxes earlier step
    → (puts : Puts airs n step earlier) → puts.on.first ≡ next_in (chosen_steps earlier)
puts_first laws airs boxes n (Step.Tuned sink which) earlier legal permits puts = ap (λ (t : BigSync). t.first) (sym puts.by.0)
puts_first laws airs boxes n (Step.Announce sink) earlier legal permits puts =
    ap (λ (t : BigSync). t.first) (sym puts.by.1 ∙ (as_by_hand laws airs boxes n sink earlier puts.by.0.big_sync legal permits puts.by.0.brings).0)
puts_first laws airs boxes n _ earlier legal permits puts = absurd puts.by
