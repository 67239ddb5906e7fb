-- Steps of reading that were made, and steps that failed.
use Rattle.bcast_base.proofs.Prelude.{◌≡◌, ◌⊎◌, Option, Some, None, Result, Ok, Err, refl, ap, inl, inr, arith}
use Rattle.bcast_base.specs.Tries.{◌>>=◌, needed}

pub ok_is : {A E : Type 0} (x y : A) → (let r : A → Result A E = λ z. Ok z in r x ≡ r y) → x ≡ y
ok_is x y e = cc

pub err_is : {A E : Type 0} (x y : E) → (let r : E → Result A E = λ z. Err z in r x ≡ r y) → x ≡ y
err_is x y e = cc

pub ok_no : {A E : Type 0} (x : A) (fault : E) → (let r : Result A E = Ok x in r ≡ Err fault) → ⊥
ok_no x fault e = cc

-- what a step gave that did not fail
pub bind_ok : {A B E : Type 0} (read : Result A E) (f : A → Result B E) (y : B) → (read >>= f) ≡ Ok y → (x : A) × (read ≡ Ok x) × (f x ≡ Ok y)
bind_ok read f y e = grind arith

-- the step that failed
pub bind_err : {A B E : Type 0} (read : Result A E) (f : A → Result B E) (fault : E) → (read >>= f) ≡ Err fault
    → (read ≡ Err fault) ⊎ ((x : A) × (read ≡ Ok x) × (f x ≡ Err fault))
bind_err (Ok x) f fault e = inr (x, refl, e)
bind_err {B = B} (Err other) f fault e = inl (ap (λ x. Err x) (err_is {A = B} other fault e))

-- a field that is whole, and one that is not
pub needed_ok : {A E : Type 0} (fault : E) (field : Option A) (x : A) → needed fault field ≡ Ok x → field ≡ Some x
needed_ok fault field x e = grind (arith, ok_is)

pub needed_err : {A E : Type 0} (fault : E) (field : Option A) (other : E) → needed fault field ≡ Err other → (field ≡ None) × (fault ≡ other)
needed_err {A = A} fault None other e = (refl, err_is {A = A} fault other e)
needed_err fault (Some x) other e = absurd (ok_no x other e)
