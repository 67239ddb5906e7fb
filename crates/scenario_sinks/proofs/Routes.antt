-- The relays of the sinks as one of them gets one or has none any more.
use Rattle.scenario_sinks.proofs.Prelude.{ℕ, zero, suc, ◌≡◌, ◌≢◌, ◌≤◌, ◌<◌, ◌+◌, ◌==◌, ◌&&◌, Bool, false, inl, inr, List, [], ◌∷◌, refl, sym, ◌∙◌, ap, Option, Some, is_none, slice_get, slice_set, eq-eqb, ne_eqb, if◌then◌else◌, arith, list_all, range_with_len, cases_eq}
use Rattle.std.proofs.Math.Bool.{and-false}
use Rattle.scenario_sinks.specs.declared.route.Route.{Route}
use Rattle.scenario_sinks.specs.RelayHistories.{Histories, is_idle, with_relay}

set_here : {A : Type 0} (xs : List A) (i : ℕ) (old new : A) → slice_get xs i ≡ Some old → slice_get (slice_set xs i new) i ≡ Some new
set_here (x ∷ xs) (suc i) old new is = set_here xs i old new is
set_here xs i old new is = search

set_other : {A : Type 0} (xs : List A) (i j : ℕ) (new : A) → i ≢ j → slice_get (slice_set xs i new) j ≡ slice_get xs j
set_other [] i j new apart = refl
set_other (x ∷ xs) zero zero new apart = absurd (apart refl)
set_other (x ∷ xs) zero (suc j) new apart = refl
set_other (x ∷ xs) (suc i) zero new apart = refl
set_other (x ∷ xs) (suc i) (suc j) new apart = set_other xs i j new (λ e. apart (ap suc e))

-- the sink of a number has this relay, or none, and the others have those that they had
pub route_set : (n at : ℕ) (routes : List (Option Route)) (were : ℕ → Option Route) (route : Option Route) → at ≡ n
    → ((m : ℕ) → m < 8 → slice_get routes m ≡ Some (were m)) → (m : ℕ) → m < 8
    → slice_get (slice_set routes at route) m ≡ Some (if n == m then route else were m)
route_set n at routes were route is are m below = grind (arith, slice_get, slice_set, cases_eq, set_here, eq-eqb, set_other, ne_eqb)

not_all : (test : ℕ → Bool) (start count n : ℕ) → start ≤ n → n < start + count → test n ≡ false → list_all test (range_with_len start count) ≡ false
not_all test start zero n least below fails = absurd (omega (arith, least, below))
not_all test start (suc count) n least below fails =
    elim (cases_eq start n) [
      | inl same ↦ ap (λ b. b && list_all test (range_with_len (start + 1) count)) (ap test same ∙ fails)
      | inr other ↦
          ap (λ b. test start && b) (not_all test (start + 1) count n (omega (arith, least, other)) (omega (arith, below)) fails)
          ∙ and-false (test start)
    ]

-- a sink has a relay
pub not_idle : (n bis to : ℕ) (past : Histories) → n < 8 → false ≡ is_idle (with_relay n bis to past)
not_idle n bis to past below =
    sym (not_all (λ m. is_none ((with_relay n bis to past).routes m)) 0 8 n (omega arith) (omega (arith, below)) (rw (eq-eqb n n refl) refl))
