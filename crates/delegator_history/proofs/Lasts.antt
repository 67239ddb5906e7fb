-- What looking back finds.
use Rattle.delegator_history.proofs.Prelude.{◌≡◌, List, [], ◌∷◌, ◌++◌, Option, Some, None, refl, ap, ◌∙◌, option_or, AllByRecursion, last_given, IsLastGiven, arith}

first_or : {S A : Type 0} (gives : S → Option A) (step : S) (earlier : List S) (given : A) (o : Option A) → gives step ≡ o
    → (last_given gives earlier ≡ Some given → IsLastGiven gives earlier given)
    → option_or o (last_given gives earlier) ≡ Some given → IsLastGiven gives (step ∷ earlier) given
first_or gives step earlier given (Some x) is others e =
    let same : x ≡ given = cc in
    record { later = []; step = step; earlier = earlier; parts = refl; here = is ∙ ap (λ y. Some y) same; none = tt }
first_or gives step earlier given None is others e =
    let h = others e in
    record { later = step ∷ h.later; step = h.step; earlier = h.earlier; parts = ap (λ steps. step ∷ steps) h.parts; here = h.here; none = (is, h.none) }

pub is_last : {S A : Type 0} (gives : S → Option A) (steps : List S) (given : A) → last_given gives steps ≡ Some given → IsLastGiven gives steps given
is_last gives [] given e = absurd cc
is_last gives (step ∷ earlier) given e = first_or gives step earlier given (gives step) refl (λ later. is_last gives earlier given later) e

walk : {S A : Type 0} (gives : S → Option A) (later : List S) (step : S) (earlier : List S) (given : A)
    → gives step ≡ Some given → AllByRecursion (λ s. gives s ≡ None) later → last_given gives (later ++ step ∷ earlier) ≡ Some given
walk gives [] step earlier given here none = ap (λ o. option_or o (last_given gives earlier)) here
walk gives (s ∷ later) step earlier given here none = grind (arith, none.0, walk gives later step earlier given here none.1)

pub last_is : {S A : Type 0} (gives : S → Option A) (steps : List S) (given : A) → IsLastGiven gives steps given → last_given gives steps ≡ Some given
last_is gives steps given h = grind (arith, last_given, walk)
